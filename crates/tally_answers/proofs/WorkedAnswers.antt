-- Worked answers, one at least to each question, computed by the definitions.
use Rattle.std.proofs.Common.{◌≡◌, Bool, true, false, List, [], ◌∷◌, ◌++◌, replicate, None, Some, ℕ, ℤ, pos, neg_ℤ, ◌≤ℤ◌, refl, arith}
use Rattle.std.proofs.lemmas.Int.{ints}
use Rattle.std.specs.Prelude.{codes}
use Rattle.tally_attempts.specs.Sums.{sum_rows}
use Rattle.tally_attempts.specs.declared.attempt.Attempt.{Attempt}
use Rattle.tally_attempts.specs.declared.attempt.AttemptSum.{AttemptSum}
use Rattle.tally_answers.specs.Answers.{answer_of}
use Rattle.tally_answers.specs.declared.question.Answer.{Answer}
use Rattle.tally_answers.specs.declared.question.Answer.TheVariants as answers
use Rattle.tally_answers.specs.declared.question.ConnectRow.{ConnectRow}
use Rattle.tally_answers.specs.declared.question.Question.{Question}
use Rattle.tally_answers.specs.declared.question.Question.TheVariants as questions
use Rattle.tally_clock.specs.Days.{seconds_from}
use Rattle.tally_clock.specs.Rows.{ClockRows, no_row, utc}
use Rattle.tally_clock.specs.declared.row.Row.{Row}
use Rattle.tally_records.specs.Choice.{every_login}
use Rattle.tally_records.specs.Event.{event_of}
use Rattle.tally_records.specs.Sorted.{in_order, insert_in_order}
use Rattle.tally_records.specs.Text.{padded}
use Rattle.tally_records.specs.declared.choice.LoginChoice.{LoginChoice}
use Rattle.tally_records.specs.declared.login.LoginRecord.{LoginRecord}
use Rattle.tally_records.specs.declared.process.ProcRecord.{ProcRecord}
use Rattle.tally_sessions.specs.Clock.{pending_old_time}
use Rattle.tally_sessions.specs.Hosts.{posted_by}
use Rattle.tally_sessions.specs.Stays.{seconds_of}
use Rattle.tally_sessions.specs.Totals.{every_host}
use Rattle.tally_sessions.specs.declared.entry.End.{End}
use Rattle.tally_sessions.specs.declared.entry.End.TheVariants.{Logout, Next, Still}
use Rattle.tally_sessions.specs.declared.entry.Entry.{Entry}
use Rattle.tally_sessions.specs.declared.entry.Stay.{Stay}
use Rattle.tally_usage.specs.Command.{command_rows}
use Rattle.tally_usage.specs.Summary.{entries_of}
use Rattle.tally_usage.specs.Usage.{usage_of}
use Rattle.tally_usage.specs.User.{user_rows}
use Rattle.tally_usage.specs.declared.command.CommandRow.{CommandRow}
use Rattle.tally_usage.specs.declared.entry.ProcEntry.{ProcEntry}
use Rattle.tally_usage.specs.declared.order.Order.TheVariants.{Cpu, Calls}
use Rattle.tally_usage.specs.declared.usage.Usage.{Usage}

abbrev utmp : ℕ → List ℕ → List ℕ → ℕ → LoginRecord
utmp kind user remote time = record { kind = kind; line = padded 32 (codes "tty1"); user = padded 32 user; remote = padded 256 remote; time = pos time }

abbrev ann : List ℕ
ann = codes "ann"

abbrev bob : List ℕ
bob = codes "bob"

abbrev far : List ℕ
far = codes "far"

-- ann, and bob after her on the same line; on another host ann, whose session nothing ends
abbrev logins : List Entry
logins = posted_by 0 (utmp 7 ann [] 1000 ∷ []) ++ posted_by 1 (utmp 0 [] [] 1100 ∷ utmp 7 ann far 1200 ∷ []) ++ posted_by 0 (utmp 7 bob [] 1600 ∷ utmp 8 [] [] 2200 ∷ [])

abbrev stay : ℕ → List ℕ → List ℕ → ℕ → End → ℕ → ℕ → Stay
stay host user remote begin end end_time length = record { host = host; is_boot = false; user = padded 32 user; line = padded 32 (codes "tty1"); remote = padded 256 remote; start = pos begin; begin = pos begin; end = end; end_time = pos end_time; length = length }

abbrev of_user : List ℕ → LoginChoice
of_user user = record every_login { users = Some (padded 32 user) ∷ replicate 7 None }

-- a question about logins alone
abbrev about_logins : Question → Answer
about_logins question = answer_of utc question logins []

-- the stays of a host, the latest first, and the time of its first record
stays : about_logins (questions.Last 0 None every_login None) ≡ answers.Last (stay 0 bob [] 1600 Logout 2200 600 ∷ stay 0 ann [] 1000 Next 1600 600 ∷ []) (Some (pos 1000))
unfolding answer_of seconds_of pending_old_time event_of
stays = refl

-- no more of them than asked for, and those that are chosen: the first record stays the host's
few_stays : about_logins (questions.Last 0 (Some 1) every_login None) ∷ about_logins (questions.Last 0 (Some 5) (of_user ann) None) ∷ []
    ≡ answers.Last (stay 0 bob [] 1600 Logout 2200 600 ∷ []) (Some (pos 1000)) ∷ answers.Last (stay 0 ann [] 1000 Next 1600 600 ∷ []) (Some (pos 1000)) ∷ []
unfolding answer_of seconds_of pending_old_time event_of
few_stays = refl

-- what nothing has ended counts up to the host's last record, or to a moment that is given
open_stays : about_logins (questions.Last 1 None every_login None) ∷ about_logins (questions.Last 1 None every_login (Some (pos 5000))) ∷ []
    ≡ answers.Last (stay 1 ann far 1200 Still 1200 0 ∷ []) (Some (pos 1100)) ∷ answers.Last (stay 1 ann far 1200 Still 5000 3800 ∷ []) (Some (pos 1100)) ∷ []
unfolding answer_of seconds_of pending_old_time event_of
open_stays = refl

-- a host that has stored nothing
no_stays : about_logins (questions.Last 2 None every_login (Some (pos 5000))) ≡ answers.Last [] None
unfolding answer_of seconds_of pending_old_time event_of
no_stays = refl

abbrev user_row : List ℕ → ℕ → ConnectRow
user_row user seconds = record { day = None; user = Some (padded 32 user); seconds = seconds }

abbrev day_row : ℕ → ℕ → ConnectRow
day_row day seconds = record { day = Some (pos day); user = None; seconds = seconds }

abbrev both_row : ℕ → List ℕ → ℕ → ConnectRow
both_row day user seconds = record { day = Some (pos day); user = Some (padded 32 user); seconds = seconds }

-- connect time of all hosts, in total and by user
connect_times : about_logins (questions.Connect false false (pos 0) every_login None) ∷ about_logins (questions.Connect false true (pos 0) every_login None) ∷ []
    ≡ answers.Connect [] 1200 ∷ answers.Connect (user_row ann 600 ∷ user_row bob 600 ∷ []) 1200 ∷ []
unfolding answer_of every_host seconds_of pending_old_time event_of in_order insert_in_order
connect_times = refl

-- that of the chosen users, and that up to a moment
chosen_times : about_logins (questions.Connect false true (pos 0) (of_user bob) None) ∷ about_logins (questions.Connect false true (pos 0) (of_user ann) (Some (pos 5000))) ∷ []
    ≡ answers.Connect (user_row bob 600 ∷ []) 600 ∷ answers.Connect (user_row ann 4400 ∷ []) 4400 ∷ []
unfolding answer_of every_host seconds_of pending_old_time event_of in_order insert_in_order
chosen_times = refl

-- two seconds before midnight of UTC and one after it
abbrev midnight : List Entry
midnight = posted_by 0 (utmp 7 ann [] 86398 ∷ utmp 8 [] [] 86401 ∷ [])

-- by day, and by day and user: at an offset of a minute east all three seconds are of the day after
by_day : answer_of utc (questions.Connect true false (pos 0) every_login None) midnight [] ∷ answer_of utc (questions.Connect true true (pos 0) every_login None) midnight []
    ∷ answer_of utc (questions.Connect true false (pos 1) every_login None) midnight [] ∷ answer_of utc (questions.Connect true true (neg_ℤ (pos 1)) every_login None) midnight [] ∷ []
    ≡ answers.Connect (day_row 0 2 ∷ day_row 1 1 ∷ []) 3 ∷ answers.Connect (both_row 0 ann 2 ∷ both_row 1 ann 1 ∷ []) 3 ∷ answers.Connect (day_row 1 3 ∷ []) 3 ∷ answers.Connect (both_row 0 ann 3 ∷ []) 3 ∷ []
unfolding answer_of every_host seconds_of pending_old_time event_of seconds_from in_order insert_in_order
by_day = refl

-- a row of a clock
abbrev row : (from seconds : ℤ) → neg_ℤ (pos 93599) ≤ℤ seconds → seconds ≤ℤ pos 93599 → Row
row from seconds low high = record { from = from; offset = record { seconds = seconds; in_range = (low, high) } }

-- a clock that goes an hour forward a second before midnight
abbrev forward : ClockRows
forward = record { first = no_row.offset; rows = row (pos 86399) (pos 3600) (omega (arith, ints)) (omega (arith, ints)) ∷ [] }

-- by the days of such a clock
by_its_days : answer_of forward (questions.Connect true false (pos 0) every_login None) midnight [] ≡ answers.Connect (day_row 0 1 ∷ day_row 1 2 ∷ []) 3
unfolding answer_of every_host seconds_of pending_old_time event_of seconds_from in_order insert_in_order
by_its_days = refl

-- a process of a user: its flag, cpu in user and system, elapsed, memory, io
abbrev make : ℕ → ℕ → ℕ → ℕ → ℕ → ℕ → ℕ → ProcRecord
make flag uid user system real mem io = record { flag = flag; uid = uid; begin = 0; user_ticks = user; system_ticks = system; real_ticks = real; mem = mem; io = io; comm = padded 17 (codes "make") }

-- of two hosts: one that called exec, and two that forked alone
abbrev procs : List ProcEntry
procs = entries_of 1 (make 0 1000 120 60 600 500 1000 ∷ []) ++ entries_of 0 (make 1 1001 60 0 60 200 3 ∷ make 1 1001 60 0 60 200 3 ∷ [])

abbrev about_procs : Question → Answer
about_procs question = answer_of utc question [] procs

-- a usage of a count, elapsed ticks, cpu ticks, io, and memory times cpu
abbrev used : ℕ → ℕ → ℕ → ℕ → ℕ → Usage
used count real cpu io mem_cpu = record { count = count; real = real; cpu = cpu; io = io; mem_cpu = mem_cpu }

abbrev total : Usage
total = used 3 720 300 1006 114000

-- of the one that called exec, and of the two that forked alone
abbrev once : Usage
once = used 1 600 180 1000 90000

abbrev twice : Usage
twice = used 2 120 120 6 24000

abbrev command_row : (name : List ℕ) (forked other : Bool) → Usage → CommandRow
command_row name forked other usage = record { name = padded 17 name; forked = forked; other = other; usage = usage }

abbrev stray_row : CommandRow
stray_row = command_row (codes "***other") false true once

abbrev make_row : CommandRow
make_row = command_row (codes "make") false false once

abbrev forked_row : CommandRow
forked_row = command_row (codes "make") true false twice

-- usage by command, of all hosts: by cpu; reversed; of all commands; by calls
commands : about_procs (questions.Commands Cpu false false) ∷ about_procs (questions.Commands Cpu true false) ∷ about_procs (questions.Commands Cpu false true) ∷ about_procs (questions.Commands Calls false false) ∷ []
    ≡ answers.Commands (stray_row ∷ forked_row ∷ []) total ∷ answers.Commands (forked_row ∷ stray_row ∷ []) total ∷ answers.Commands (make_row ∷ forked_row ∷ []) total ∷ answers.Commands (forked_row ∷ stray_row ∷ []) total ∷ []
unfolding answer_of command_rows in_order insert_in_order usage_of
commands = refl

-- by user: by cpu, reversed, and by calls
users : about_procs (questions.Users Cpu false) ∷ about_procs (questions.Users Cpu true) ∷ about_procs (questions.Users Calls false) ∷ []
    ≡ answers.Users (record { uid = 1000; usage = once } ∷ record { uid = 1001; usage = twice } ∷ []) total
    ∷ answers.Users (record { uid = 1001; usage = twice } ∷ record { uid = 1000; usage = once } ∷ []) total
    ∷ answers.Users (record { uid = 1001; usage = twice } ∷ record { uid = 1000; usage = once } ∷ []) total ∷ []
unfolding answer_of user_rows in_order insert_in_order usage_of
users = refl

-- without a record there is no row, and nothing was used
no_usage : answer_of utc (questions.Commands Cpu false false) logins [] ∷ answer_of utc (questions.Users Cpu false) logins [] ∷ []
    ≡ answers.Commands [] (used 0 0 0 0 0) ∷ answers.Users [] (used 0 0 0 0 0) ∷ []
unfolding answer_of command_rows user_rows in_order insert_in_order usage_of
no_usage = refl

abbrev attempt : ℕ → List ℕ → List ℕ → ℕ → Attempt
attempt host user remote time = record { host = host; user = padded 32 user; line = padded 32 (codes "tty1"); remote = padded 256 remote; time = pos time }

-- failed logins of a host, the latest first, and the time of its first record
attempts : about_logins (questions.Attempts 0 None every_login) ∷ about_logins (questions.Attempts 0 (Some 1) every_login) ∷ about_logins (questions.Attempts 0 None (of_user ann)) ∷ about_logins (questions.Attempts 1 None every_login) ∷ about_logins (questions.Attempts 2 None every_login) ∷ []
    ≡ answers.Attempts (attempt 0 bob [] 1600 ∷ attempt 0 ann [] 1000 ∷ []) (Some (pos 1000)) ∷ answers.Attempts (attempt 0 bob [] 1600 ∷ []) (Some (pos 1000)) ∷ answers.Attempts (attempt 0 ann [] 1000 ∷ []) (Some (pos 1000))
    ∷ answers.Attempts (attempt 1 ann far 1200 ∷ []) (Some (pos 1100)) ∷ answers.Attempts [] None ∷ []
unfolding answer_of
attempts = refl

abbrev attempt_sum : List ℕ → List ℕ → ℕ → AttemptSum
attempt_sum user remote count = record { user = padded 32 user; remote = padded 256 remote; attempts = count }

-- how many of each user and remote host there are on all hosts, at a tie by user and by remote host
attempt_sums : about_logins (questions.AttemptSums None every_login) ∷ about_logins (questions.AttemptSums (Some 2) every_login) ∷ about_logins (questions.AttemptSums None (of_user bob)) ∷ []
    ≡ answers.AttemptSums (attempt_sum ann [] 1 ∷ attempt_sum ann far 1 ∷ attempt_sum bob [] 1 ∷ []) ∷ answers.AttemptSums (attempt_sum ann [] 1 ∷ attempt_sum ann far 1 ∷ []) ∷ answers.AttemptSums (attempt_sum bob [] 1 ∷ []) ∷ []
unfolding answer_of sum_rows in_order insert_in_order
attempt_sums = refl
