use Rattle.std.proofs.Common.{◌≡◌, ◌∙◌, ℕ, List, [], Some, get_or, ap, sym}
use Rattle.std.proofs.lemmas.Option.{slice_get-get_or}
use Rattle.std.proofs.lemmas.Map.Text.{is_eq-slice_cmp}
use Rattle.std.proofs.lemmas.Slice.Eq.{bytes_eq-Decides}
use Rattle.std.specs.Ordering.{is_eq}
use Rattle.tally_sessions.proofs.connect.day_table.rank_of.Goals as goal

pub returns-in-Ok : goal.returns-in-Ok
returns-in-Ok c =
    let name : List ℕ = get_or c.args.users.now c.in-Ok.rank [] in
    let same : name ≡ c.args.user.now = (bytes_eq-Decides name c.args.user.now).0 (sym (is_eq-slice_cmp name c.args.user.now) ∙ ap is_eq (c.in-Ok.ensures.ok [])) in
    slice_get-get_or c.args.users.now c.in-Ok.rank [] c.in-Ok.ensures.bound ∙ ap Some same
