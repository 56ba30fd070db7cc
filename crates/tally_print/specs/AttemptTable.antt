-- Failed logins and their sums as tables: files from 1, texts as printed, times in seconds since 1970 and as moments, whole counts.
use Rattle.std.specs.Prelude.{◌+◌, [], ◌∷◌, ℤ, codes, decimal}
use Rattle.std.specs.Fmt.{signed_decimal}
use Rattle.tally_attempts.specs.declared.attempt.Attempt.{Attempt}
use Rattle.tally_attempts.specs.declared.attempt.AttemptSum.{AttemptSum}
use Rattle.tally_print.specs.StayTable.{iso_moment}
use Rattle.tally_print.specs.Tables.{Row}
use Rattle.tally_print.specs.Text.{shown}

-- the names of the columns of failed logins
unfoldable pub attempt_header : Row
attempt_header =
    codes "file" ∷ codes "user" ∷ codes "line" ∷ codes "remote" ∷ codes "time" ∷ codes "at" ∷ []

-- the fields of a failed login under these names, with its moment by a clock
unfoldable pub attempt_fields : (ℤ → ℤ) → Attempt → Row
attempt_fields clock attempt =
    decimal (attempt.host + 1) ∷ shown attempt.user ∷ shown attempt.line ∷ shown attempt.remote
    ∷ signed_decimal attempt.time ∷ iso_moment attempt.time clock ∷ []

-- the names of the columns of sums
unfoldable pub attempt_sum_header : Row
attempt_sum_header = codes "user" ∷ codes "remote" ∷ codes "attempts" ∷ []

-- the fields of a sum under these names
unfoldable pub attempt_sum_fields : AttemptSum → Row
attempt_sum_fields row = shown row.user ∷ shown row.remote ∷ decimal row.attempts ∷ []
