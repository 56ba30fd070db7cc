-- Failed logins, as lastb(8) lists them.
use Rattle.std.specs.Prelude.{ℕ, Bool, not, ◌&&◌, ◌||◌, ◌==◌, List, filter, map, reverse, take, Option}
use Rattle.tally_attempts.specs.declared.attempt.Attempt.{Attempt}
use Rattle.tally_records.specs.Choice.{is_among}
use Rattle.tally_records.specs.Event.{is_blank}
use Rattle.tally_records.specs.Period.{is_within}
use Rattle.tally_records.specs.declared.choice.LoginChoice.{LoginChoice}
use Rattle.tally_records.specs.declared.login.LoginRecord.{LoginRecord}
use Rattle.tally_sessions.specs.Hosts.{of_host}
use Rattle.tally_sessions.specs.Totals.{limited}
use Rattle.tally_sessions.specs.declared.entry.Entry.{Entry}

-- a record is a failed login: it is of type 6 or 7, LOGIN_PROCESS or USER_PROCESS of utmp(5), and names a line or a user
abbrev pub is_attempt : LoginRecord → Bool
is_attempt r = ((r.kind == 6) || (r.kind == 7)) && not (is_blank r.line && is_blank r.user)

-- a record is a chosen failed login: by its user, by its line, and by when it was
abbrev pub is_chosen : LoginChoice → LoginRecord → Bool
is_chosen choice r = is_attempt r && is_among choice.users r.user && is_among choice.lines r.line && is_within choice.period r.time

-- the row of a host's record
abbrev pub attempt : ℕ → LoginRecord → Attempt
attempt host r = record { host = host; user = r.user; line = r.line; remote = r.remote; time = r.time }

-- the chosen failed logins of a host, the latest first
abbrev pub attempts_of : ℕ → LoginChoice → List Entry → List Attempt
attempts_of host choice entries = reverse (map (attempt host) (filter (is_chosen choice) (of_host host entries)))

-- those of the entries before a place
abbrev pub attempts_before : ℕ → LoginChoice → ℕ → List Entry → List Attempt
attempts_before host choice place entries = attempts_of host choice (take place entries)

-- no more of them than a limit
abbrev pub latest_attempts : ℕ → Option ℕ → LoginChoice → List Entry → List Attempt
latest_attempts host limit choice entries = limited limit (attempts_of host choice entries)
