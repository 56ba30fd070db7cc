-- Sessions, and sums of seconds over them.
use Rattle.std.specs.Prelude.{ℕ, ℤ, List, Option, map, filter, sum_by, bytes_eq}
use Rattle.std.specs.List.{flat_map}
use Rattle.tally_sessions.specs.declared.entry.Entry.{Entry}
use Rattle.tally_sessions.specs.declared.entry.Stay.{Stay}
use Rattle.tally_sessions.specs.declared.sums.Session.{Session}
use Rattle.tally_clock.specs.Days.{seconds_between, seconds_on}
use Rattle.tally_records.specs.declared.choice.LoginChoice.{LoginChoice}
use Rattle.tally_records.specs.declared.period.Period.{Period}
use Rattle.tally_sessions.specs.Choice.{begin_in, end_time_in, is_counted}
use Rattle.tally_sessions.specs.Totals.{every_host, stays_of}

-- what a period has of a login's stay
abbrev pub session_in : Period → Stay → Session
session_in period s = record { user = s.user; begin = begin_in period s.begin; end_time = end_time_in period s.end_time }

-- the chosen sessions among stays, cut to the period
abbrev pub sessions_among : LoginChoice → List Stay → List Session
sessions_among choice stays = map (session_in choice.period) (filter (is_counted choice) stays)

-- the chosen sessions of all hosts, cut to the period
abbrev pub sessions_of : LoginChoice → List Entry → Option ℤ → List Session
sessions_of choice entries until = flat_map (λ host. sessions_among choice (stays_of host entries until)) every_host

-- the seconds of sessions
abbrev pub seconds_in : List Session → ℕ
seconds_in sessions = sum_by (λ s. seconds_between s.begin s.end_time) sessions

-- those of a user
abbrev pub seconds_of_user : List ℕ → List Session → ℕ
seconds_of_user user sessions = seconds_in (filter (λ s. bytes_eq s.user user) sessions)

-- the seconds of all sessions on a day of a clock
abbrev pub seconds_of_day : (ℤ → ℤ) → ℤ → List Session → ℕ
seconds_of_day clock day sessions = sum_by (λ s. seconds_on clock day s.begin s.end_time) sessions

-- those of a user on a day
abbrev pub seconds_of_day_user : (ℤ → ℤ) → ℤ → List ℕ → List Session → ℕ
seconds_of_day_user clock day user sessions = seconds_of_day clock day (filter (λ s. bytes_eq s.user user) sessions)
