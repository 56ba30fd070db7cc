use Rattle.std.proofs.Common.{◌≡◌, ◌∙◌, sym, ap, Some, slice_get, option_map, Option}
use Rattle.tally_records.specs.declared.login.LoginRecord.{LoginRecord}
use Rattle.tally_records.proofs.Compact.Tiling.{found}
use Rattle.tally_records.specs.inside.Compact.Layout.{record_at}
use Rattle.tally_records.proofs.login.logins.Logins.kind.Goals as goal

pub returns : goal.returns
unfolding record_at
returns c =
    let at : slice_get c.as_slice.result.now c.args.index ≡ Some c.in_ok-head.head = sym c.head_at.ensures ∙ c.in_ok-head.was in
    ap (λ (o : Option LoginRecord). option_map (λ r. r.kind) o) (sym (found c.self.inside.heads.items c.as_slice.result.now c.self.inside.words.items c.args.self.now c.args.index c.in_ok-head.head c.self.view_is c.as_slice.ensures.value at))
