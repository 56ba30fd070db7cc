-- The text of a row of a failed login, and of a sum.
use Rattle.std.proofs.Common.{◌≡◌, ℕ, ℤ, ◌+◌, ◌∷◌, ◌++◌, List, []}
use Rattle.std.specs.Prelude.{decimal}
use Rattle.std.specs.Fmt.{signed_decimal}
use Rattle.std.proofs.lemmas.List.{append_assoc, append-nil}
use Rattle.csv.specs.Writing.{default_writer, field_text, fields_text, is_blank, row_text}
use Rattle.tally_attempts.specs.declared.attempt.Attempt.{Attempt}
use Rattle.tally_attempts.specs.declared.attempt.AttemptSum.{AttemptSum}
use Rattle.tally_print.specs.AttemptTable.{attempt_fields, attempt_sum_fields}
use Rattle.tally_print.specs.StayTable.{iso_moment}
use Rattle.tally_print.specs.Text.{shown}
use Rattle.tally_print.proofs.PlainLemmas.{number_as_field, signed_as_field}
use Rattle.tally_print.proofs.StayTableLemmas.{iso_as_field}

-- the parts of a row, one after the other, on a line
pub attempt_row_text : (line : List ℕ) (clock : ℤ → ℤ) (attempt : Attempt)
    → (line ++ (decimal (attempt.host + 1) ++ 44 ∷ [] ++ (field_text default_writer (shown attempt.user) ++ 44 ∷ [])
    ++ (field_text default_writer (shown attempt.line) ++ 44 ∷ []) ++ (field_text default_writer (shown attempt.remote) ++ 44 ∷ [])))
    ++ (signed_decimal attempt.time ++ 44 ∷ [] ++ iso_moment attempt.time clock ++ 10 ∷ []) ≡ line ++ row_text default_writer (attempt_fields clock attempt)
unfolding attempt_fields fields_text is_blank
attempt_row_text line clock attempt =
    rw (number_as_field (attempt.host + 1), signed_as_field attempt.time, iso_as_field attempt.time clock) (simp (append_assoc, append-nil))

pub sum_row_text : (line : List ℕ) (sum : AttemptSum)
    → (((line ++ (field_text default_writer (shown sum.user) ++ 44 ∷ [])) ++ (field_text default_writer (shown sum.remote) ++ 44 ∷ [])) ++ decimal sum.attempts) ++ 10 ∷ []
    ≡ line ++ row_text default_writer (attempt_sum_fields sum)
unfolding attempt_sum_fields fields_text is_blank
sum_row_text line sum = rw (number_as_field sum.attempts) (simp (append_assoc, append-nil))
