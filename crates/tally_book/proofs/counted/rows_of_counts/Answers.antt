use Rattle.std.proofs.Common.{◌∙◌, ap, map}
use Rattle.std.proofs.lemmas.Result.{IfOk-weaker}
use Rattle.tally_answers.specs.Answers.{row_of_day, row_of_day_user, row_of_user}
use Rattle.tally_book.proofs.RowDays.{day_rows_have_days, day_user_rows_have_days, user_rows_have_days}
use Rattle.tally_book.proofs.counted.rows_of_counts.Goals as goal

pub returns-in_ok-user_rows-in-false-true-clause-days : goal.returns-in_ok-user_rows-in-false-true-clause-days
returns-in_ok-user_rows-in-false-true-clause-days c =
    IfOk-weaker c.from_vec-in-false-true.result _ _ (λ rows is. user_rows_have_days c.in_ok-times-in-false-true.times rows (is ∙ c.in_ok-user_rows-in-false-true.ensures ∙ ap (map row_of_user) c.as_slice-in-false-true.ensures))
    c.from_vec-in-false-true.ensures

pub returns-in_ok-day_rows-in-true-false-clause-days : goal.returns-in_ok-day_rows-in-true-false-clause-days
returns-in_ok-day_rows-in-true-false-clause-days c =
    IfOk-weaker c.from_vec-in-true-false.result _ _ (λ rows is. day_rows_have_days c.in_ok-times-in-true-false.times rows (is ∙ c.in_ok-day_rows-in-true-false.ensures ∙ ap (map row_of_day) c.as_slice-in-true-false.ensures) c.in_ok-times-in-true-false.ensures.days)
    c.from_vec-in-true-false.ensures

pub returns-in_ok-day_user_rows-in-true-true-clause-days : goal.returns-in_ok-day_user_rows-in-true-true-clause-days
returns-in_ok-day_user_rows-in-true-true-clause-days c =
    IfOk-weaker c.from_vec.result _ _ (λ rows is. day_user_rows_have_days c.in_ok-times-in-true-true.times rows (is ∙ c.in_ok-day_user_rows-in-true-true.ensures ∙ ap (map row_of_day_user) c.as_slice.ensures) c.in_ok-times-in-true-true.ensures.days)
    c.from_vec.ensures
