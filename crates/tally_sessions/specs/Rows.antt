-- Rows of connect time: each user, day, or user on a day whose time is above 0, once, by day and then by name bytes.
use Rattle.std.specs.Prelude.{ℕ, ℤ, List, map, filter, nat_lt}
use Rattle.std.specs.Cmp.Lexicographic.{slice_cmp}
use Rattle.std.specs.List.{flat_map}
use Rattle.std.specs.Ordering.{int_cmp, nat_cmp, ordering_then}
use Rattle.std.specs.declared.cmp.Ordering.{Ordering}
use Rattle.tally_records.specs.Sorted.{in_order}
use Rattle.tally_sessions.specs.declared.sums.Session.{Session}
use Rattle.tally_sessions.specs.declared.times.DayTime.{DayTime}
use Rattle.tally_sessions.specs.declared.times.DayUserTime.{DayUserTime}
use Rattle.tally_sessions.specs.declared.times.UserTime.{UserTime}
use Rattle.tally_clock.specs.Days.{days_of_seconds}
use Rattle.tally_sessions.specs.Sums.{seconds_of_day, seconds_of_day_user, seconds_of_user}

-- by the name's bytes
abbrev pub user_time_cmp : UserTime → UserTime → Ordering
user_time_cmp a b = slice_cmp nat_cmp a.user b.user

-- the row of a user
abbrev pub user_time : List Session → List ℕ → UserTime
user_time sessions user = record { user = user; seconds = seconds_of_user user sessions }

-- the rows of all users with connect time
abbrev pub user_times : List Session → List UserTime
user_times sessions = in_order user_time_cmp (filter (λ row. nat_lt 0 row.seconds) (map (λ s. user_time sessions s.user) sessions))

-- by the day
abbrev pub day_time_cmp : DayTime → DayTime → Ordering
day_time_cmp a b = int_cmp a.day b.day

-- the row of a day, on a clock
abbrev pub day_time : (ℤ → ℤ) → List Session → ℤ → DayTime
day_time clock sessions day = record { day = day; seconds = seconds_of_day clock day sessions }

-- the rows of all days with connect time
abbrev pub day_times : (ℤ → ℤ) → List Session → List DayTime
day_times clock sessions = in_order day_time_cmp (filter (λ row. nat_lt 0 row.seconds)
    (flat_map (λ s. map (day_time clock sessions) (days_of_seconds clock s.begin s.end_time)) sessions))

-- by the day, and then by the name's bytes
abbrev pub day_user_time_cmp : DayUserTime → DayUserTime → Ordering
day_user_time_cmp a b = ordering_then (int_cmp a.day b.day) (slice_cmp nat_cmp a.user b.user)

-- the row of a user on a day, on a clock
abbrev pub day_user_time : (ℤ → ℤ) → List Session → List ℕ → ℤ → DayUserTime
day_user_time clock sessions user day = record { day = day; user = user; seconds = seconds_of_day_user clock day user sessions }

-- the rows of all users on all days with connect time
abbrev pub day_user_times : (ℤ → ℤ) → List Session → List DayUserTime
day_user_times clock sessions = in_order day_user_time_cmp (filter (λ row. nat_lt 0 row.seconds)
    (flat_map (λ s. map (day_user_time clock sessions s.user) (days_of_seconds clock s.begin s.end_time)) sessions))
