use Rattle.std.proofs.Common.{◌∷◌, []}
use Rattle.std.specs.Prelude.{decimal}
use Rattle.std.proofs.lemmas.Result.{IfOk-equal}
use Rattle.tally_check_text.specs.CheckTable.{silent_fields}
use Rattle.tally_check_text.proofs.RowLemmas.{two_joined}
use Rattle.tally_check_text.proofs.row.push_login_doubts.Goals as goal

pub returns : goal.returns
returns c =
    let found = c.args.found.now in
    IfOk-equal c.push_cells.result _ _ _ c.push_cells.ensures
    (rw c.in_ok-push_silent.ensures (two_joined c.args.text.now.items (silent_fields found.counts) (decimal found.steps.count ∷ decimal found.steps.greatest ∷ decimal found.rest ∷ [])))
