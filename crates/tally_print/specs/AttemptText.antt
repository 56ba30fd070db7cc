-- The text of a report of failed logins, as lastb(8) prints it, and that of their sums.
use Rattle.std.specs.Prelude.{ℕ, List, ◌++◌, flat_map, ℤ, codes, decimal, Option}
use Rattle.tally_attempts.specs.declared.attempt.Attempt.{Attempt}
use Rattle.tally_attempts.specs.declared.attempt.AttemptSum.{AttemptSum}
use Rattle.tally_print.specs.Text.{beginning, shown, left, right, moment}

-- the line of a failed login, with its moment by a clock: user, line, remote and time
unfoldable pub attempt_line : (ℤ → ℤ) → Attempt → List ℕ
attempt_line clock attempt =
    left (shown attempt.user) 8 ++ codes " " ++ left (shown attempt.line) 12 ++ codes " "
    ++ left (shown attempt.remote) 16 ++ codes " " ++ moment attempt.time clock ++ codes "\n"

-- a line for each failed login, and from when on the host has records, with moments by a clock
abbrev pub attempts_text : List Attempt → Option ℤ → (ℤ → ℤ) → List ℕ
attempts_text rows first clock = flat_map (attempt_line clock) rows ++ beginning (codes "btmp") first clock

-- the line of a sum: how many failed logins there are, of which user and from which remote host
unfoldable pub attempt_sum_line : AttemptSum → List ℕ
attempt_sum_line row =
    right (decimal row.attempts) 8 ++ codes " " ++ left (shown row.user) 8 ++ codes " " ++ shown row.remote
    ++ codes "\n"

-- a line for each sum
abbrev pub attempt_sums_text : List AttemptSum → List ℕ
attempt_sums_text rows = flat_map attempt_sum_line rows
