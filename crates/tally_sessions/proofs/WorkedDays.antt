-- Worked examples of days, computed by the definitions, each of stays of a few seconds.
use Rattle.std.proofs.Common.{◌≡◌, ℕ, List, [], ◌∷◌, ◌++◌, map, None, ℤ, pos, neg_ℤ, ◌≤ℤ◌, refl, arith}
use Rattle.std.proofs.lemmas.Int.{ints}
use Rattle.std.specs.Prelude.{codes}
use Rattle.tally_clock.specs.Days.{day_of, seconds_from}
use Rattle.tally_clock.specs.Rows.{ClockRows, no_row}
use Rattle.tally_clock.specs.declared.row.Row.{Row}
use Rattle.tally_records.specs.declared.login.LoginRecord.{LoginRecord}
use Rattle.tally_records.specs.Event.{event_of}
use Rattle.tally_records.specs.Sorted.{in_order, insert_in_order}
use Rattle.tally_records.specs.Text.{padded}
use Rattle.tally_sessions.specs.declared.entry.Entry.{Entry}
use Rattle.tally_sessions.specs.declared.times.DayTime.{DayTime}
use Rattle.tally_sessions.specs.declared.times.DayUserTime.{DayUserTime}
use Rattle.tally_sessions.specs.Clock.{pending_old_time}
use Rattle.tally_sessions.specs.Days.{IsDay, IsOffset, local}
use Rattle.tally_sessions.specs.Hosts.{posted_by}
use Rattle.tally_records.specs.Choice.{every_login}
use Rattle.tally_sessions.specs.Sums.{sessions_of}
use Rattle.tally_sessions.specs.Rows.{day_times, day_user_times}
use Rattle.tally_sessions.specs.Stays.{seconds_of}
use Rattle.tally_sessions.specs.Totals.{every_host}

abbrev utmp : ℕ → List ℕ → List ℕ → ℤ → LoginRecord
utmp kind line user time = record { kind = kind; line = padded 32 line; user = padded 32 user; remote = padded 256 []; time = time }

abbrev ann : List ℕ
ann = codes "ann"

-- ann from one second up to another
abbrev stay : ℕ → ℕ → List Entry
stay begin end_time = posted_by 0 (utmp 7 (codes "tty1") ann (pos begin) ∷ utmp 8 (codes "tty1") [] (pos end_time) ∷ [])

-- a row of a clock
abbrev row : (from seconds : ℤ) → neg_ℤ (pos 93599) ≤ℤ seconds → seconds ≤ℤ pos 93599 → Row
row from seconds low high = record { from = from; offset = record { seconds = seconds; in_range = (low, high) } }

-- a clock of UTC up to its first row
abbrev clock : List Row → ClockRows
clock rows = record { first = no_row.offset; rows = rows }

abbrev day_and_seconds : DayTime → ℤ × ℕ
day_and_seconds r = (r.day, r.seconds)

-- the days of a stay
abbrev days_of : ClockRows → ℤ → List Entry → List (ℤ × ℕ)
days_of rows offset entries = map day_and_seconds (day_times (local rows offset) (sessions_of every_login entries None))

-- ten seconds before midnight the clock goes an hour forward: that second is of the next day already
forward : days_of (clock (row (pos 86390) (pos 3600) (omega (arith, ints)) (omega (arith, ints)) ∷ [])) (pos 0) (stay 86389 86392) ≡ (pos 0, 1) ∷ (pos 1, 2) ∷ []
unfolding every_host seconds_of pending_old_time event_of seconds_from in_order insert_in_order
forward = refl

-- a second after midnight it goes an hour back: day 0 has seconds before day 1 and after it
back : days_of (clock (row (pos 86401) (neg_ℤ (pos 3600)) (omega (arith, ints)) (omega (arith, ints)) ∷ [])) (pos 0) (stay 86399 86402) ≡ (pos 0, 2) ∷ (pos 1, 1) ∷ []
unfolding every_host seconds_of pending_old_time event_of seconds_from in_order insert_in_order
back = refl

-- a repeated second counts twice: two seconds are shown as one and the same
repeated : days_of (clock (row (pos 50000) (neg_ℤ (pos 1)) (omega (arith, ints)) (omega (arith, ints)) ∷ [])) (pos 0) (stay 49999 50001) ≡ (pos 0, 2) ∷ []
unfolding every_host seconds_of pending_old_time event_of seconds_from in_order insert_in_order
repeated = refl

-- a day and two seconds forward: day 1 has no seconds, and no row
skipped : days_of (clock (row (pos 86399) (pos 86402) (omega (arith, ints)) (omega (arith, ints)) ∷ [])) (pos 0) (stay 86398 86401) ≡ (pos 0, 1) ∷ (pos 2, 2) ∷ []
unfolding every_host seconds_of pending_old_time event_of seconds_from in_order insert_in_order
skipped = refl

-- an offset of 3 seconds to the west: midnight is 3 seconds later
seconds_west : days_of (clock (row (pos 0) (neg_ℤ (pos 3)) (omega (arith, ints)) (omega (arith, ints)) ∷ [])) (pos 0) (stay 86401 86404) ≡ (pos 0, 2) ∷ (pos 1, 1) ∷ []
unfolding every_host seconds_of pending_old_time event_of seconds_from in_order insert_in_order
seconds_west = refl

-- a question's hour to the east is added to the clock's hour: midnight is 2 hours earlier
hour_east : days_of (clock (row (pos 0) (pos 3600) (omega (arith, ints)) (omega (arith, ints)) ∷ [])) (pos 60) (stay 79199 79202) ≡ (pos 0, 1) ∷ (pos 1, 2) ∷ []
unfolding every_host seconds_of pending_old_time event_of seconds_from in_order insert_in_order
hour_east = refl

-- over two transitions: one second of each offset, the last of which is that of the first again
two_rows : days_of (clock (row (pos 86398) (pos 7200) (omega (arith, ints)) (omega (arith, ints)) ∷ row (pos 86399) (pos 0) (omega (arith, ints)) (omega (arith, ints)) ∷ [])) (pos 0) (stay 86397 86400) ≡ (pos 0, 2) ∷ (pos 1, 1) ∷ []
unfolding every_host seconds_of pending_old_time event_of seconds_from in_order insert_in_order
two_rows = refl

-- the second before 1970 is of day -1, and a stay that goes back is on no day
early : days_of (clock (row (pos 0) (neg_ℤ (pos 1)) (omega (arith, ints)) (omega (arith, ints)) ∷ [])) (pos 0) (stay 0 2) ≡ (neg_ℤ (pos 1), 1) ∷ (pos 0, 1) ∷ []
unfolding every_host seconds_of pending_old_time event_of seconds_from in_order insert_in_order
early = refl

goes_back : days_of (clock []) (pos 0) (stay 5 3) ≡ []
unfolding every_host seconds_of pending_old_time event_of seconds_from in_order insert_in_order
goes_back = refl

abbrev seconds_of_row : DayUserTime → ℤ × List ℕ × ℕ
seconds_of_row r = (r.day, r.user, r.seconds)

-- the same by user
by_user : map seconds_of_row (day_user_times (local (clock (row (pos 86390) (pos 3600) (omega (arith, ints)) (omega (arith, ints)) ∷ [])) (pos 0)) (sessions_of every_login (stay 86389 86392) None))
    ≡ (pos 0, padded 32 ann, 1) ∷ (pos 1, padded 32 ann, 2) ∷ []
unfolding every_host seconds_of pending_old_time event_of seconds_from in_order insert_in_order
by_user = refl

-- two users on two days: bob on tty1, and ann on tty2 from a second later on, up to a second after him
abbrev two_users : List Entry
two_users = posted_by 0 (utmp 7 (codes "tty1") (codes "bob") (pos 86398) ∷ utmp 7 (codes "tty2") ann (pos 86399) ∷ utmp 8 (codes "tty1") [] (pos 86401) ∷ utmp 8 (codes "tty2") [] (pos 86402) ∷ [])

-- the rows stand by day and then by name, one for each user on each day
users_on_days : map seconds_of_row (day_user_times (local (clock []) (pos 0)) (sessions_of every_login two_users None))
    ≡ (pos 0, padded 32 ann, 1) ∷ (pos 0, padded 32 (codes "bob"), 2) ∷ (pos 1, padded 32 ann, 2) ∷ (pos 1, padded 32 (codes "bob"), 1) ∷ []
unfolding every_host seconds_of pending_old_time event_of seconds_from in_order insert_in_order
users_on_days = refl

-- a day has the seconds of all users
days_of_users : days_of (clock []) (pos 0) two_users ≡ (pos 0, 3) ∷ (pos 1, 3) ∷ []
unfolding every_host seconds_of pending_old_time event_of seconds_from in_order insert_in_order
days_of_users = refl

-- two sessions of a user on a day are one row
one_row : map seconds_of_row (day_user_times (local (clock []) (pos 0)) (sessions_of every_login (stay 10 12 ++ stay 20 25) None)) ≡ (pos 0, padded 32 ann, 7) ∷ []
unfolding every_host seconds_of pending_old_time event_of seconds_from in_order insert_in_order
one_row = refl

-- an hour to the west midnight is an hour later, and an hour to the east an hour earlier
hour_west : days_of (clock []) (neg_ℤ (pos 60)) (stay 89998 90001) ∷ days_of (clock []) (pos 60) (stay 82798 82801) ∷ [] ≡ ((pos 0, 2) ∷ (pos 1, 1) ∷ []) ∷ ((pos 0, 2) ∷ (pos 1, 1) ∷ []) ∷ []
unfolding every_host seconds_of pending_old_time event_of seconds_from in_order insert_in_order
hour_west = refl

-- before 1970 days count back
over_1970 : days_of (clock []) (pos 0) (posted_by 0 (utmp 7 (codes "tty1") ann (neg_ℤ (pos 2)) ∷ utmp 8 (codes "tty1") [] (pos 3) ∷ [])) ≡ (neg_ℤ (pos 1), 2) ∷ (pos 0, 3) ∷ []
unfolding every_host seconds_of pending_old_time event_of seconds_from in_order insert_in_order
over_1970 = refl

-- ---- local time

-- minutes are added to the seconds of the clock
locals : map (λ minutes. local (clock (row (pos 0) (pos 3600) (omega (arith, ints)) (omega (arith, ints)) ∷ [])) minutes (pos 5)) (pos 0 ∷ pos 30 ∷ neg_ℤ (pos 90) ∷ []) ≡ pos 3600 ∷ pos 5400 ∷ neg_ℤ (pos 1800) ∷ []
locals = refl

-- an offset is less than a day to either side
least_offset : IsOffset (neg_ℤ (pos 1439))
least_offset = record { low = omega (arith, ints); high = omega (arith, ints) }

-- that to the east is as great
most_offset : IsOffset (pos 1439)
most_offset = record { low = omega (arith, ints); high = omega (arith, ints) }

-- a whole day to the west is none
day_west : ¬ IsOffset (neg_ℤ (pos 1440))
day_west is = omega (arith, ints, is.low)

-- nor is one to the east
day_east : ¬ IsOffset (pos 1440)
day_east is = omega (arith, ints, is.high)

-- the days of the first and of the last time that a record can have, where local time is as far from UTC as it can be
abbrev farthest : ClockRows → ClockRows → List ℤ
farthest west east = day_of (local west (neg_ℤ (pos 1439))) (neg_ℤ (pos 2147483648)) ∷ day_of (local east (pos 1439)) (pos 2147483647) ∷ []

-- with the farthest offset of a clock on top of that of the question
far_days : farthest (clock (row (neg_ℤ (pos 2147483648)) (neg_ℤ (pos 93599)) (omega (arith, ints)) (omega (arith, ints)) ∷ [])) (clock (row (pos 0) (pos 93599) (omega (arith, ints)) (omega (arith, ints)) ∷ [])) ≡ neg_ℤ (pos 24858) ∷ pos 24857 ∷ []
far_days = refl

-- the first of these is a day that a time can have
first_day : IsDay (neg_ℤ (pos 24858))
first_day = record { low = omega (arith, ints); high = omega (arith, ints) }

-- and so is the last
last_day : IsDay (pos 24857)
last_day = record { low = omega (arith, ints); high = omega (arith, ints) }

-- none is before the first or after the last
too_early : ¬ IsDay (neg_ℤ (pos 24859))
too_early is = omega (arith, ints, is.low)

-- nor is one after the last
too_late : ¬ IsDay (pos 24858)
too_late is = omega (arith, ints, is.high)
