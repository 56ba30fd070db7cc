use Rattle.std.proofs.Common.{◌∙◌}
use Rattle.std.proofs.lemmas.Result.{IfOk-weaker}
use Rattle.tally_book.proofs.RowDays.{user_rows_have_days}
use Rattle.tally_book.proofs.RowSums.{user_rows_add_up_to}
use Rattle.tally_book.proofs.connect.rows_of_users.Goals as goal

pub returns-clause-days : goal.returns-clause-days
returns-clause-days c =
    IfOk-weaker c.from_vec.result _ _ (λ rows is. user_rows_have_days c.args.times.now rows (is ∙ c.in_ok-user_rows.ensures)) c.from_vec.ensures

pub returns-clause-sum : goal.returns-clause-sum
returns-clause-sum c =
    IfOk-weaker c.from_vec.result _ _ (λ rows is. user_rows_add_up_to c.args.times.now rows (is ∙ c.in_ok-user_rows.ensures) c.requires.fits) c.from_vec.ensures
