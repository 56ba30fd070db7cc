-- How the seconds of the days change from each day to the next, of all sessions and of each user's. A table by day has a
-- place for each day that a time can have.
use Rattle.std.specs.Prelude.{ℕ, ℤ, ◌+◌, ◌-◌, ◌<◌, IsSome, List, map, sum_by, pos, get_or, length, unsigned_abs, ◌+ℤ◌, ◌-ℤ◌}
use Rattle.std.specs.Int.{int_max}
use Rattle.std.specs.List.{flat_map}
use Rattle.std.specs.Map.{lookup}
use Rattle.std.specs.Ordering.{is_eq}
use Rattle.tally_clock.specs.Days.{days_of_seconds, seconds_on}
use Rattle.tally_clock.specs.declared.row.Row.{Row}
use Rattle.tally_sessions.specs.declared.connect.keys.DayUser.{DayUser}
use Rattle.tally_sessions.specs.declared.connect.keys.RowUser.{RowUser}
use Rattle.tally_sessions.specs.declared.sums.Session.{Session}
use Rattle.tally_sessions.specs.Sums.{seconds_of_day, seconds_of_day_user}
use Rattle.tally_sessions.specs.inside.Counts.{change_since, stand_for}
use Rattle.tally_sessions.specs.inside.Sums.{change_of, day_user_cmp, row_user_cmp}

-- the day of a place
abbrev pub day_at : ℕ → ℤ
day_at place = pos place -ℤ pos 24858

-- how many seconds more a day has of a stay than the day before it
abbrev pub change_on : (ℤ → ℤ) → ℤ → ℤ → ℤ → ℤ
change_on clock day begin end_time = pos (seconds_on clock day begin end_time) -ℤ pos (seconds_on clock (day -ℤ pos 1) begin end_time)

-- how many seconds more a day has of all sessions than the day before it
abbrev pub change_of_day : (ℤ → ℤ) → ℤ → List Session → ℤ
change_of_day clock day sessions = pos (seconds_of_day clock day sessions) -ℤ pos (seconds_of_day clock (day -ℤ pos 1) sessions)

-- the change at a place of a table
abbrev pub change_at : List ℤ → ℕ → ℤ
change_at changes place = get_or changes place (pos 0)

-- the change that a table of days and counts by row give the day of a place
abbrev pub told_at : (ℤ → ℤ) → List Row → List ℤ → List ℤ → ℕ → ℤ
told_at clock rows table counts place = change_at table place +ℤ stand_for (change_at counts) (change_since clock rows (day_at place)) (length rows)

-- the change of a user on a day
abbrev pub day_change : List (DayUser × ℤ) → DayUser → ℤ
day_change changes k = change_of day_user_cmp changes k

-- the count of a user at a row
abbrev pub count_of : List (RowUser × ℤ) → List ℕ → ℕ → ℤ
count_of counts user row = change_of row_user_cmp counts (record { row = row; user = user })

-- the row of each count is one of so many
abbrev pub AreWithin : List (RowUser × ℤ) → ℕ → Type 0
AreWithin counts rows = (k : RowUser) → IsSome (lookup (λ j. is_eq (row_user_cmp k j)) counts) → k.row < rows

-- how many rows there are from those of the counts on
abbrev pub rows_ahead : ℕ → List (RowUser × ℤ) → ℕ
rows_ahead rows counts = sum_by (λ e. rows - e.0.row) counts

-- the change that changes by day and counts by row give a user on a day
abbrev pub told_of : (ℤ → ℤ) → List Row → List (DayUser × ℤ) → List (RowUser × ℤ) → DayUser → ℤ
told_of clock rows changes counts k = day_change changes k +ℤ stand_for (count_of counts k.user) (change_since clock rows k.day) (length rows)

-- how many seconds more a user has of all sessions on a day than on the day before it
abbrev pub change_of_day_user : (ℤ → ℤ) → DayUser → List Session → ℤ
change_of_day_user clock k sessions = pos (seconds_of_day_user clock k.day k.user sessions) -ℤ pos (seconds_of_day_user clock (k.day -ℤ pos 1) k.user sessions)

-- how many days there are from a day to the last that a time can have, and one more
abbrev pub days_from : ℤ → ℕ
days_from day = unsigned_abs (int_max (pos 24858 -ℤ day) (pos 0)) + 1

-- the days from each entry on
abbrev pub days_ahead : List (DayUser × ℤ) → ℕ
days_ahead changes = sum_by (λ e. days_from e.0.day) changes

-- the users on days of these sessions
abbrev pub day_users_of : (ℤ → ℤ) → List Session → List DayUser
day_users_of clock sessions = flat_map (λ s. map (λ day. record { day = day; user = s.user }) (days_of_seconds clock s.begin s.end_time)) sessions
