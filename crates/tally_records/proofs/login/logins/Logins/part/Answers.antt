use Rattle.std.proofs.Common.{◌≡◌, ◌∙◌, ℕ, List, ap, sym, Some, slice_get}
use Rattle.tally_records.specs.inside.Compact.Layout.{record_at}
use Rattle.tally_records.proofs.Compact.Tiling.{found, readable}
use Rattle.tally_records.proofs.login.logins.Logins.part.Goals as goal

pub returns-clause-within : goal.returns-clause-within
returns-clause-within c =
    (readable c.self.inside.heads.items c.as_slice.result.now c.self.inside.words.items c.as_slice-2.result.now c.args.index c.in_ok-head.head c.self.invariant c.as_slice.ensures.value (sym c.head_at.ensures ∙ c.in_ok-head.was) c.as_slice-2.ensures.value).0

pub returns-clause-small : goal.returns-clause-small
returns-clause-small c =
    (readable c.self.inside.heads.items c.as_slice.result.now c.self.inside.words.items c.as_slice-2.result.now c.args.index c.in_ok-head.head c.self.invariant c.as_slice.ensures.value (sym c.head_at.ensures ∙ c.in_ok-head.was) c.as_slice-2.ensures.value).1

pub returns-clause-value : goal.returns-clause-value
returns-clause-value c =
    let at : slice_get c.as_slice.result.now c.args.index ≡ Some c.in_ok-head.head = sym c.head_at.ensures ∙ c.in_ok-head.was in
    ap (λ (words : List ℕ). Some (record_at words c.in_ok-head.head)) c.as_slice-2.ensures.value
    ∙ sym (found c.self.inside.heads.items c.as_slice.result.now c.self.inside.words.items c.args.self.now c.args.index c.in_ok-head.head c.self.view_is c.as_slice.ensures.value at)
