-- Moments and lengths of time as a check prints them. A clock is how far it is ahead of UTC at each second, in seconds.
use Rattle.std.specs.Prelude.{ℕ, ◌+◌, ◌/◌, ◌%◌, List, ◌++◌, ℤ, pos, neg_ℤ, ◌+ℤ◌, ◌-ℤ◌, int_le, unsigned_abs, count_by, codes, decimal}
use Rattle.std.specs.Int.{int_div_euclid, int_max, int_min, int_rem_euclid}
use Rattle.std.specs.List.{range_with_len}
use Rattle.jiff_core.specs.Calendar.{days_from_civil}
use Rattle.tally_print.specs.StayTable.{zone}
use Rattle.tally_print.specs.Text.{time_of_day, two}

-- the year of a day, counted from 1970-01-01: from 1901 on, so many years have begun by then
unfoldable pub year_of : ℤ → ℕ
year_of day = 1900 + count_by (λ y. int_le (days_from_civil (pos y) 1 1) day) (range_with_len 1901 206)

-- the month: so many months of the year have begun by then
unfoldable pub month_of : ℤ → ℕ
month_of day = count_by (λ m. int_le (days_from_civil (pos (year_of day)) m 1) day) (range_with_len 1 12)

-- the day of the month, from 1
unfoldable pub day_of_month : ℤ → ℕ
day_of_month day = unsigned_abs (day -ℤ days_from_civil (pos (year_of day)) (month_of day) 1) + 1

-- `YYYY-MM-DD`
unfoldable pub date : ℤ → List ℕ
date day =
    two (year_of day / 100) ++ two (year_of day % 100) ++ codes "-" ++ two (month_of day)
    ++ codes "-" ++ two (day_of_month day)

-- a second, or the nearest to it that a record can have: login records have 32 bits with a sign, process records 32 without
abbrev pub recorded : ℤ → ℤ
recorded time = int_max (neg_ℤ (pos 2_147_483_648)) (int_min (pos 4_294_967_295) time)

-- how far a clock is ahead at a second; after the last that a login record has it stays as it is then
abbrev pub ahead_of : (ℤ → ℤ) → ℤ → ℤ
ahead_of clock time = clock (int_min time (pos 2_147_483_647))

-- a second as a clock shows it
abbrev pub shown_at : (ℤ → ℤ) → ℤ → ℤ
shown_at clock time = recorded time +ℤ ahead_of clock (recorded time)

abbrev pub day_at : (ℤ → ℤ) → ℤ → ℤ
day_at clock time = int_div_euclid (shown_at clock time) (pos 86_400)

abbrev pub second_at : (ℤ → ℤ) → ℤ → ℕ
second_at clock time = unsigned_abs (int_rem_euclid (shown_at clock time) (pos 86_400))

-- `YYYY-MM-DD hh:mm:ss`
unfoldable pub moment : (ℤ → ℤ) → ℤ → List ℕ
moment clock time = date (day_at clock time) ++ codes " " ++ time_of_day (second_at clock time)

-- `YYYY-MM-DDThh:mm:ss+hh:mm`, as ISO 8601 has it, with the offset that held at that second
unfoldable pub iso_moment : (ℤ → ℤ) → ℤ → List ℕ
iso_moment clock time =
    date (day_at clock time) ++ codes "T" ++ time_of_day (second_at clock time) ++ zone (ahead_of clock (recorded time))

-- seconds as `h:mm:ss`
abbrev pub length_text : ℕ → List ℕ
length_text seconds = decimal (seconds / 3600) ++ codes ":" ++ two (seconds / 60 % 60) ++ codes ":" ++ two (seconds % 60)
