-- The answer to a question, over the stored entries.
use Rattle.std.specs.Prelude.{◌≡◌, ℕ, ℤ, ◌<◌, All, IfSome, List, [], Bool, true, false, Option, Some, None, map}
use Rattle.tally_answers.specs.declared.question.Question.{Question}
use Rattle.tally_answers.specs.declared.question.Question.TheVariants as questions
use Rattle.tally_answers.specs.declared.question.Answer.{Answer}
use Rattle.tally_answers.specs.declared.question.Answer.TheVariants as answers
use Rattle.tally_answers.specs.declared.question.ConnectRow.{ConnectRow}
use Rattle.tally_attempts.specs.Attempts.{latest_attempts}
use Rattle.tally_attempts.specs.Sums.{attempt_sums}
use Rattle.tally_clock.specs.Rows.{ClockRows}
use Rattle.tally_sessions.specs.declared.entry.Entry.{Entry}
use Rattle.tally_records.specs.Choice.{is_every_login}
use Rattle.tally_records.specs.declared.choice.LoginChoice.{LoginChoice}
use Rattle.tally_sessions.specs.declared.times.DayTime.{DayTime}
use Rattle.tally_sessions.specs.declared.times.DayUserTime.{DayUserTime}
use Rattle.tally_sessions.specs.declared.times.UserTime.{UserTime}
use Rattle.tally_sessions.specs.ConnectSums.{AreCountsOf, Counted}
use Rattle.tally_sessions.specs.Days.{IsDay, IsOffset, local}
use Rattle.tally_sessions.specs.Rows.{day_times, day_user_times, user_times}
use Rattle.tally_sessions.specs.Sums.{seconds_in, sessions_of}
use Rattle.tally_sessions.specs.Totals.{first_time, latest_stays}
use Rattle.tally_usage.specs.declared.entry.ProcEntry.{ProcEntry}
use Rattle.tally_usage.specs.Command.{command_rows}
use Rattle.tally_usage.specs.Totals.{records_of}
use Rattle.tally_usage.specs.Usage.{usage_of}
use Rattle.tally_usage.specs.User.{user_rows}

-- what a question needs: an offset within its range
abbrev pub IsAskable : Question → Type 0
IsAskable (questions.Last host limit choice until) = Unit {0}
IsAskable (questions.Connect by_day by_user offset choice until) = IsOffset offset
IsAskable (questions.Commands order reverse all) = Unit {0}
IsAskable (questions.Users order reverse) = Unit {0}
IsAskable (questions.Attempts host limit choice) = Unit {0}
IsAskable (questions.AttemptSums limit choice) = Unit {0}

-- the host that a question names is one of so many
abbrev pub NamesHostBelow : ℕ → Question → Type 0
NamesHostBelow hosts (questions.Last host limit choice until) = host < hosts
NamesHostBelow hosts (questions.Connect by_day by_user offset choice until) = Unit {0}
NamesHostBelow hosts (questions.Commands order reverse all) = Unit {0}
NamesHostBelow hosts (questions.Users order reverse) = Unit {0}
NamesHostBelow hosts (questions.Attempts host limit choice) = host < hosts
NamesHostBelow hosts (questions.AttemptSums limit choice) = Unit {0}

-- the question is for the stays or the failed logins of this host
abbrev pub NamesHost : Question → ℕ → Type 0
NamesHost (questions.Last host limit choice until) asked = host ≡ asked
NamesHost (questions.Connect by_day by_user offset choice until) asked = ⊥
NamesHost (questions.Commands order reverse all) asked = ⊥
NamesHost (questions.Users order reverse) asked = ⊥
NamesHost (questions.Attempts host limit choice) asked = host ≡ asked
NamesHost (questions.AttemptSums limit choice) asked = ⊥

-- the row of a user's connect time
abbrev pub row_of_user : UserTime → ConnectRow
row_of_user time = record { day = None; user = Some time.user; seconds = time.seconds }

-- the row of a day's connect time
abbrev pub row_of_day : DayTime → ConnectRow
row_of_day time = record { day = Some time.day; user = None; seconds = time.seconds }

-- the row of a user's connect time on a day
abbrev pub row_of_day_user : DayUserTime → ConnectRow
row_of_day_user time = record { day = Some time.day; user = Some time.user; seconds = time.seconds }

-- the rows of connect times of the chosen sessions: by day of a clock, by user, by both or none
abbrev pub connect_rows : Bool → Bool → (ℤ → ℤ) → LoginChoice → List Entry → Option ℤ → List ConnectRow
connect_rows false false clock choice logins until = []
connect_rows false true clock choice logins until = map row_of_user (user_times (sessions_of choice logins until))
connect_rows true false clock choice logins until = map row_of_day (day_times clock (sessions_of choice logins until))
connect_rows true true clock choice logins until = map row_of_day_user (day_user_times clock (sessions_of choice logins until))

-- a row's day is one that a time can have
abbrev pub HasDay : ConnectRow → Type 0
HasDay row = IfSome row.day IsDay

-- the days of an answer's rows are days that a time can have
abbrev pub HasDays : Answer → Type 0
HasDays (answers.Last rows first) = Unit {0}
HasDays (answers.Connect rows total) = All HasDay rows
HasDays (answers.Commands rows total) = Unit {0}
HasDays (answers.Users rows total) = Unit {0}
HasDays (answers.Attempts rows first) = Unit {0}
HasDays (answers.AttemptSums rows) = Unit {0}

-- the answer over the stored entries, with days by a clock: each report is over what its question chooses
unfoldable pub answer_of : ClockRows → Question → List Entry → List ProcEntry → Answer
answer_of clock (questions.Last host limit choice until) logins procs =
    answers.Last (latest_stays host limit choice logins until) (first_time host logins)
answer_of clock (questions.Connect by_day by_user offset choice until) logins procs =
    answers.Connect (connect_rows by_day by_user (local clock offset) choice logins until) (seconds_in (sessions_of choice logins until))
answer_of clock (questions.Commands order reverse all) logins procs =
    answers.Commands (command_rows order all reverse (records_of procs)) (usage_of (records_of procs))
answer_of clock (questions.Users order reverse) logins procs =
    answers.Users (user_rows order reverse (records_of procs)) (usage_of (records_of procs))
answer_of clock (questions.Attempts host limit choice) logins procs =
    answers.Attempts (latest_attempts host limit choice logins) (first_time host logins)
answer_of clock (questions.AttemptSums limit choice) logins procs =
    answers.AttemptSums (attempt_sums limit choice logins)

-- it is the answer on the connect time of all sessions, by day of a clock, by user, by both or in total alone, about whatever logins
-- these are the counts of
abbrev pub IsAnswerOfCounts : ClockRows → ℤ → List Counted → Bool → Bool → Option ℤ → Answer → Type 0
IsAnswerOfCounts clock offset cs by_day by_user until answer = (choice : LoginChoice) (logins : List Entry) (procs : List ProcEntry)
    → is_every_login choice ≡ true → AreCountsOf cs logins
    → answer ≡ answer_of clock (questions.Connect by_day by_user offset choice until) logins procs
