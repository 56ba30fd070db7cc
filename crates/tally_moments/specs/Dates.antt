-- Days of the calendar, as texts name them. Day 0 is 1970-01-01.
use Rattle.std.specs.Prelude.{ℕ, ℤ, pos, ◌&&◌, Bool, List, Option, Some, None, codes, nat_le, option_and_then, option_map, if◌then◌else◌}
use Rattle.jiff_core.specs.Calendar.{days_from_civil, days_in_month}
use Rattle.tally_moments.specs.Shapes.{first_four, is_like, two_at}

-- the calendar has a date
abbrev pub is_date : ℕ → ℕ → ℕ → Bool
is_date year month day =
    nat_le year 9999 && (nat_le 1 month && nat_le month 12) && (nat_le 1 day && nat_le day (days_in_month (pos year) month))

-- the day of a date that the calendar has
abbrev pub day_of : ℕ → ℕ → ℕ → Option ℤ
day_of year month day = if is_date year month day then Some (days_from_civil (pos year) month day) else None

-- the last day of a month
abbrev pub month_end : ℕ → ℕ → Option ℤ
month_end year month = day_of year month (days_in_month (pos year) month)

-- the day that a text as 2026-07-01 names
abbrev pub day_named : List ℕ → Option ℤ
day_named text = if is_like (codes "0000-00-00") text then day_of (first_four text) (two_at text 5) (two_at text 8) else None

-- two days, where there are both
abbrev pub both : Option ℤ → Option ℤ → Option (ℤ × ℤ)
both first last = option_and_then (λ f. option_map (λ l. (f, l)) last) first

-- the first and the last day of what a text names: a year, as 2026, a month, as 2026-07, or a day
abbrev pub days_named : List ℕ → Option (ℤ × ℤ)
days_named text =
    if is_like (codes "0000") text then both (day_of (first_four text) 1 1) (day_of (first_four text) 12 31)
    else (if is_like (codes "0000-00") text then both (day_of (first_four text) (two_at text 5) 1) (month_end (first_four text) (two_at text 5))
    else both (day_named text) (day_named text))
