-- The sections of hosts with failed logins, and what stands between them.
use Rattle.std.specs.Prelude.{ℕ, zero, suc, ℤ, List, [], ◌∷◌, ◌++◌, Option}
use Rattle.tally_attempts.specs.Attempts.{latest_attempts}
use Rattle.tally_records.specs.declared.choice.LoginChoice.{LoginChoice}
use Rattle.tally_sessions.specs.Totals.{first_time}
use Rattle.tally_sessions.specs.declared.entry.Entry.{Entry}
use Rattle.tally_print.specs.AttemptText.{attempts_text}

-- what stands before the section of a host: an empty line, but before the first
abbrev pub gap : ℕ → List ℕ
gap zero = []
gap (suc n) = 10 ∷ []

-- the section of a host, after that, with moments by a clock
abbrev pub section : (ℤ → ℤ) → Option ℕ → LoginChoice → List Entry → ℕ → List ℕ
section clock limit choice entries host = gap host ++ attempts_text (latest_attempts host limit choice entries) (first_time host entries) clock
