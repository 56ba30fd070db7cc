-- Laws of stays and their days, and of the rows of connect time.
use Rattle.std.specs.Prelude.{◌≡◌, ◌<◌, ◌+ℤ◌, ℕ, ℤ, pos, All, Contains, List, [], Option, sum_by}
use Rattle.std.specs.List.{flat_map, range_with_len}
use Rattle.tally_clock.specs.Days.{Hold, seconds_on}
use Rattle.tally_records.specs.declared.choice.LoginChoice.{LoginChoice}
use Rattle.tally_sessions.specs.declared.entry.Entry.{Entry}
use Rattle.tally_sessions.specs.declared.entry.Stay.{Stay}
use Rattle.tally_sessions.specs.declared.sums.Session.{Session}
use Rattle.tally_sessions.specs.Hosts.{of_host}
use Rattle.tally_sessions.specs.Rows.{day_time, day_times, day_user_time, day_user_times, user_time, user_times}
use Rattle.tally_sessions.specs.Sums.{seconds_in, seconds_of_day, seconds_of_day_user, seconds_of_user, sessions_among, sessions_of}
use Rattle.tally_sessions.specs.Stays.{stays_from}
use Rattle.tally_sessions.specs.Totals.{every_host, stays_of}

-- the seconds of a stay over days that hold all of it are its length
abbrev pub HasItsDays : (ℤ → ℤ) → Stay → Type 0
HasItsDays clock s = (first : ℤ) (count : ℕ) → Hold clock s.begin s.end_time first count
    → sum_by (λ k. seconds_on clock (first +ℤ pos k) s.begin s.end_time) (range_with_len 0 count) ≡ s.length

-- this is so of every stay, on every clock and for every moment to count to
abbrev pub StaysHaveTheirDays : Type 0
StaysHaveTheirDays = (clock : ℤ → ℤ) (host : ℕ) (entries : List Entry) (until : Option ℤ) → All (HasItsDays clock) (stays_of host entries until)

-- each user, each day, and each user on a day with connect time has a row
pub record HaveRows (sessions : List Session) : Type 0 where
  pub users : (user : List ℕ) → 0 < seconds_of_user user sessions → Contains (user_times sessions) (user_time sessions user)
  pub days : (clock : ℤ → ℤ) (day : ℤ) → 0 < seconds_of_day clock day sessions
      → Contains (day_times clock sessions) (day_time clock sessions day)
  pub day_users : (clock : ℤ → ℤ) (day : ℤ) (user : List ℕ) → 0 < seconds_of_day_user clock day user sessions
      → Contains (day_user_times clock sessions) (day_user_time clock sessions user day)

-- this is so of all sessions
abbrev pub TimesHaveRows : Type 0
TimesHaveRows = (sessions : List Session) → HaveRows sessions

-- the rows of the users add up to the total
abbrev pub RowsAddUp : Type 0
RowsAddUp = (sessions : List Session) → sum_by (λ row. row.seconds) (user_times sessions) ≡ seconds_in sessions

-- the sessions of all hosts are those of the records of each, whatever the numbers of the hosts are
abbrev pub HostsAreAlike : Type 0
HostsAreAlike = (choice : LoginChoice) (entries : List Entry) (until : Option ℤ)
    → sessions_of choice entries until ≡ flat_map (λ host. sessions_among choice (stays_from 0 [] (of_host host entries) until)) every_host
