-- The days of a clock, and the seconds of a stay on each. Day 0 is 1970-01-01. A clock is how far
-- it is ahead of UTC at each second, in seconds.
use Rattle.std.specs.Prelude.{◌≡◌, ℕ, zero, suc, ℤ, pos, ◌+◌, ◌+ℤ◌, ◌-ℤ◌, ◌*ℤ◌, ◌≤ℤ◌, ◌<ℤ◌, ◌↔◌, List, map, sum_by, unsigned_abs, if◌then◌else◌}
use Rattle.std.specs.Int.{int_div_euclid, int_max, int_min}
use Rattle.std.specs.Ordering.{int_eq}
use Rattle.std.specs.List.{range_with_len}

-- the day of a second
abbrev pub day_of : (ℤ → ℤ) → ℤ → ℤ
day_of clock time = int_div_euclid (time +ℤ clock time) (pos 86400)

-- one, where a second is of a day
abbrev pub second_on : (ℤ → ℤ) → ℤ → ℤ → ℕ
second_on clock day time = if int_eq (day_of clock time) day then 1 else 0

-- how many of so many seconds from one on are of a day
unfoldable pub seconds_from : (ℤ → ℤ) → ℤ → ℤ → ℕ → ℕ
seconds_from clock day begin zero = 0
seconds_from clock day begin (suc n) = seconds_from clock day begin n + second_on clock day (begin +ℤ pos n)

-- the seconds from one time to another, or none where it goes back
abbrev pub seconds_between : ℤ → ℤ → ℕ
seconds_between begin end_time = unsigned_abs (int_max (end_time -ℤ begin) (pos 0))

-- the seconds that a day has of a stay
abbrev pub seconds_on : (ℤ → ℤ) → ℤ → ℤ → ℤ → ℕ
seconds_on clock day begin end_time = seconds_from clock day begin (seconds_between begin end_time)

-- the days of a stay's seconds
abbrev pub days_of_seconds : (ℤ → ℤ) → ℤ → ℤ → List ℤ
days_of_seconds clock begin end_time = map (λ k. day_of clock (begin +ℤ pos k)) (range_with_len 0 (seconds_between begin end_time))

-- a stay in two parts
abbrev pub PartsAddUp : Type 0
PartsAddUp = (clock : ℤ → ℤ) (day begin time end_time : ℤ) → begin ≤ℤ time → time ≤ℤ end_time
    → seconds_on clock day begin time + seconds_on clock day time end_time ≡ seconds_on clock day begin end_time

-- each second of a stay is of one of so many days in a row
abbrev pub Hold : (ℤ → ℤ) → ℤ → ℤ → ℤ → ℕ → Type 0
Hold clock begin end_time first count = (time : ℤ) → begin ≤ℤ time → time <ℤ end_time → (first ≤ℤ day_of clock time) × (day_of clock time <ℤ (first +ℤ pos count))

-- the seconds of a stay over days that hold all of it are its length
abbrev pub DaysAddUp : Type 0
DaysAddUp = (clock : ℤ → ℤ) (begin end_time first : ℤ) (count : ℕ) → Hold clock begin end_time first count
    → sum_by (λ k. seconds_on clock (first +ℤ pos k) begin end_time) (range_with_len 0 count) ≡ seconds_between begin end_time

-- when a day begins at one offset
abbrev pub day_start : ℤ → ℤ → ℤ
day_start offset day = pos 86400 *ℤ day -ℤ offset

-- at one offset a day has the seconds from its start up to the start of the next
abbrev pub DaysHoldTheirTimes : Type 0
DaysHoldTheirTimes = (offset day time : ℤ) → (day_of (λ t. offset) time ≡ day) ↔ ((day_start offset day ≤ℤ time) × ((time +ℤ pos 1) ≤ℤ day_start offset (day +ℤ pos 1)))

-- while a clock stays at one offset, a day is 86,400 seconds from its start
abbrev pub DaysOfOneOffset : Type 0
DaysOfOneOffset = (clock : ℤ → ℤ) (offset day begin end_time : ℤ)
    → ((time : ℤ) → begin ≤ℤ time → time <ℤ end_time → clock time ≡ offset)
    → seconds_on clock day begin end_time ≡ seconds_between (int_max begin (day_start offset day)) (int_min end_time (day_start offset (day +ℤ pos 1)))
