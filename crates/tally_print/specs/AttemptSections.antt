-- The failed logins of several hosts, each over stored login entries.
use Rattle.std.specs.Prelude.{ℕ, List, Option, map}
use Rattle.std.specs.List.{range_with_len}
use Rattle.tally_attempts.specs.Attempts.{latest_attempts}
use Rattle.tally_answers.specs.declared.question.Answer.{Answer}
use Rattle.tally_answers.specs.declared.question.Answer.TheVariants as answers
use Rattle.tally_records.specs.declared.choice.LoginChoice.{LoginChoice}
use Rattle.tally_sessions.specs.Totals.{first_time}
use Rattle.tally_sessions.specs.declared.entry.Entry.{Entry}

-- the latest chosen failed logins of a host up to a limit, and the time of its first record
abbrev pub attempt_answer : Option ℕ → LoginChoice → List Entry → ℕ → Answer
attempt_answer limit choice entries host = answers.Attempts (latest_attempts host limit choice entries) (first_time host entries)

-- those of each of so many hosts, from host 0 on
abbrev pub attempt_answers : ℕ → Option ℕ → LoginChoice → List Entry → List Answer
attempt_answers hosts limit choice entries = map (attempt_answer limit choice entries) (range_with_len 0 hosts)
