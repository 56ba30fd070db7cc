-- The text of an answer.
use Rattle.std.specs.Prelude.{ℤ, ℕ, List, Option}
use Rattle.tally_answers.specs.declared.question.Answer.{Answer}
use Rattle.tally_answers.specs.declared.question.Answer.TheVariants as answers
use Rattle.tally_print.specs.AttemptText.{attempt_sums_text, attempts_text}
use Rattle.tally_print.specs.ConnectText.{connect_text}
use Rattle.tally_print.specs.LastText.{last_text}
use Rattle.tally_print.specs.UsageText.{commands_text, users_text}

-- the text of its kind of report, with moments by a clock, and the moment that its question gave
abbrev pub answer_text : Answer → (ℤ → ℤ) → Option ℤ → List ℕ
answer_text (answers.Last rows first) clock until = last_text rows first clock until
answer_text (answers.Attempts rows first) clock until = attempts_text rows first clock
answer_text (answers.AttemptSums rows) clock until = attempt_sums_text rows
answer_text (answers.Connect rows total) clock until = connect_text rows total
answer_text (answers.Commands rows total) clock until = commands_text rows total
answer_text (answers.Users rows total) clock until = users_text rows total
