-- Rows that begin with the number of a file, and the stays among answers.
use Rattle.std.specs.Prelude.{◌≡◌, ℕ, ℤ, ◌+◌, ◌∷◌, List, [], decimal, drop, refl}
use Rattle.csv.specs.Writing.{is_blank}
use Rattle.tally_attempts.specs.declared.attempt.Attempt.{Attempt}
use Rattle.tally_answers.specs.declared.question.Answer.{Answer}
use Rattle.tally_answers.specs.declared.question.Answer.TheVariants as answers
use Rattle.tally_records.specs.declared.period.Period.{Period}
use Rattle.tally_sessions.specs.declared.entry.Stay.{Stay}
use Rattle.tally_print.specs.AttemptTable.{attempt_fields}
use Rattle.tally_print.specs.StayTable.{part_fields, stay_fields, who_fields}
use Rattle.tally_print.specs.Tables.{Row}
use Rattle.tally_print.specs.inside.Tables.{IsWide}

-- the first field is the number of a file, which is counted from 0 here, and the others are no blank row
pub record BeginsWithFile (file : ℕ) (fields : Row) : Type 0 where
  pub number : fields ≡ decimal (file + 1) ∷ drop 1 fields
  pub wide : IsWide (drop 1 fields)

pub stay_begins : (clock : ℤ → ℤ) (stay : Stay) → BeginsWithFile stay.host (stay_fields clock stay)
unfolding stay_fields who_fields is_blank
stay_begins clock stay = record { number = refl; wide = refl }

pub part_begins : (clock : ℤ → ℤ) (period : Period) (stay : Stay) → BeginsWithFile stay.host (part_fields clock period stay)
unfolding part_fields stay_fields who_fields is_blank
part_begins clock period stay = record { number = refl; wide = refl }

pub attempt_begins : (clock : ℤ → ℤ) (attempt : Attempt) → BeginsWithFile attempt.host (attempt_fields clock attempt)
unfolding attempt_fields is_blank
attempt_begins clock attempt = record { number = refl; wide = refl }

-- the stays that an answer says; one to another question says none
abbrev pub stays_in : Answer → List Stay
stays_in (answers.Last rows first) = rows
stays_in answer = []
