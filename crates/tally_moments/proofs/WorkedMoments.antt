-- Worked moments: what words say, computed by the definitions, and the seconds that clocks have for them.
use Rattle.std.proofs.Common.{◌≡◌, zero, suc, [], ◌∷◌, map, None, Some, ℤ, pos, neg_ℤ, ◌≤ℤ◌, refl, arith}
use Rattle.std.proofs.lemmas.Int.{ints}
use Rattle.std.specs.Prelude.{codes}
use Rattle.jiff_core.specs.Calendar.{day_count, days_from_civil, days_of_months, days_of_years}
use Rattle.tally_moments.specs.Moments.{clear_moment_of, moment_of, period_of}
use Rattle.tally_clock.specs.Rows.{ClockRows, IsRising, utc}
use Rattle.tally_moments.specs.Seconds.{IsSecondOf, local}
use Rattle.tally_moments.specs.inside.Reach.{IsNotReached}
use Rattle.tally_moments.specs.declared.moment.Moment.TheVariants.{Day, Now, Second, Time}
use Rattle.tally_clock.specs.declared.row.Row.{Row}
use Rattle.tally_moments.proofs.Reaching.{is_first, not_in}

-- ---- words

-- a date, and one that the calendar has in leap years alone
dates : map moment_of (codes "2026-07-01" ∷ codes "2024-02-29" ∷ codes "2026-02-29" ∷ codes "2026-7-1" ∷ codes "2026-07-01Z" ∷ [])
    ≡ Some (Day (pos 20635)) ∷ Some (Day (pos 19782)) ∷ None ∷ None ∷ None ∷ []
unfolding days_from_civil day_count days_of_years days_of_months
dates = refl

-- a time of day on the clock of the run, with or without seconds
times : map moment_of (codes "2026-07-01T10:30" ∷ codes "2026-07-01 10:30:05" ∷ codes "2026-07-01T24:00" ∷ codes "2026-07-01T10:60" ∷ codes "2026-07-01t10:30" ∷ codes "2026-07-01T10:30:00.5" ∷ [])
    ≡ Some (Time (pos 20635) 37800) ∷ Some (Time (pos 20635) 37805) ∷ None ∷ None ∷ None ∷ None ∷ []
unfolding days_from_civil day_count days_of_years days_of_months
times = refl

-- an offset counts to the east: its clock shows a time earlier
offsets : map moment_of (codes "2026-07-01T10:30Z" ∷ codes "2026-07-01T10:30+02:00" ∷ codes "2026-07-01T10:30:00-0230" ∷ codes "2026-07-01T10:30+24:00" ∷ codes "2026-07-01T10:30+2" ∷ [])
    ≡ Some (Second (pos 1782901800)) ∷ Some (Second (pos 1782894600)) ∷ Some (Second (pos 1782910800)) ∷ None ∷ None ∷ []
unfolding days_from_civil day_count days_of_years days_of_months
offsets = refl

-- whole seconds: after an at sign they may be negative
seconds : map moment_of (codes "@1782901800" ∷ codes "@-5" ∷ codes "@+5" ∷ codes "1782901800" ∷ codes "+5" ∷ codes "-5" ∷ codes "@" ∷ [])
    ≡ Some (Second (pos 1782901800)) ∷ Some (Second (neg_ℤ (pos 5))) ∷ None ∷ Some (Second (pos 1782901800)) ∷ Some (Second (pos 5)) ∷ None ∷ None ∷ []
seconds = refl

-- digits alone are seconds, also as many as a date has
digits : map moment_of (codes "20260701" ∷ codes "0020260701" ∷ codes "20260701103000" ∷ codes "now" ∷ codes "Now" ∷ [])
    ≡ Some (Second (pos 20260701)) ∷ Some (Second (pos 20260701)) ∷ Some (Second (pos 20260701103000)) ∷ Some Now ∷ None ∷ []
digits = refl

-- as many digits as a date has without signs are no clear moment, and other numbers of digits are
clear_digits : map clear_moment_of (codes "20260701" ∷ codes "+20260701" ∷ codes "20260701103000" ∷ codes "@20260701" ∷ codes "2026070" ∷ codes "1782864000" ∷ codes "now" ∷ [])
    ≡ None ∷ None ∷ None ∷ Some (Second (pos 20260701)) ∷ Some (Second (pos 2026070)) ∷ Some (Second (pos 1782864000)) ∷ Some Now ∷ []
clear_digits = refl

-- a minus alone may stand before zero
minus_zero : map moment_of (codes "-0" ∷ codes "-00" ∷ codes "-1" ∷ codes "-" ∷ []) ≡ Some (Second (pos 0)) ∷ Some (Second (pos 0)) ∷ None ∷ None ∷ []
minus_zero = refl

-- ---- periods

-- a year, of 365 days or of 366
years : map period_of (codes "2026" ∷ codes "2024" ∷ codes "1970" ∷ codes "26" ∷ codes "02026" ∷ codes "+2026" ∷ [])
    ≡ Some (Day (pos 20454), Day (pos 20819)) ∷ Some (Day (pos 19723), Day (pos 20089)) ∷ Some (Day (pos 0), Day (pos 365)) ∷ None ∷ None ∷ None ∷ []
unfolding days_from_civil day_count days_of_years days_of_months
years = refl

-- a month: December goes up to the next year, and February has a day more in leap years
months : map period_of (codes "2026-12" ∷ codes "2024-02" ∷ codes "2026-02" ∷ codes "2026-13" ∷ codes "2026-00" ∷ codes "202607" ∷ codes "2026-7" ∷ [])
    ≡ Some (Day (pos 20788), Day (pos 20819)) ∷ Some (Day (pos 19754), Day (pos 19783)) ∷ Some (Day (pos 20485), Day (pos 20513)) ∷ None ∷ None ∷ None ∷ None ∷ []
unfolding days_from_civil day_count days_of_years days_of_months
months = refl

-- a day: the calendar of now counts back to before it was in use, so that 10 October of 1582 is a day as any other
days : map period_of (codes "2026-07-31" ∷ codes "2024-02-29" ∷ codes "2026-02-29" ∷ codes "1582-10-10" ∷ codes "1582-10-15" ∷ codes "1969-12-31" ∷ codes "2026-07-31T00:00" ∷ [])
    ≡ Some (Day (pos 20665), Day (pos 20666)) ∷ Some (Day (pos 19782), Day (pos 19783)) ∷ None ∷ Some (Day (neg_ℤ (pos 141432)), Day (neg_ℤ (pos 141431))) ∷ Some (Day (neg_ℤ (pos 141427)), Day (neg_ℤ (pos 141426))) ∷ Some (Day (neg_ℤ (pos 1)), Day (pos 0)) ∷ None ∷ []
unfolding days_from_civil day_count days_of_years days_of_months
days = refl

-- ---- clocks

-- an offset from a second on
abbrev row : (from seconds : ℤ) → neg_ℤ (pos 93599) ≤ℤ seconds → seconds ≤ℤ pos 93599 → Row
row from seconds low high = record { from = from; offset = record { seconds = seconds; in_range = (low, high) } }

-- the summer of 2026 in Berlin: an hour forward at 01:00 by UTC of 29 March, and back at 01:00 of 25 October
abbrev winter : Row
winter = row (pos 1792890000) (pos 3600) (omega (arith, ints)) (omega (arith, ints))

abbrev berlin : ClockRows
berlin = record { first = winter.offset; rows = row (pos 1774746000) (pos 7200) (omega (arith, ints)) (omega (arith, ints)) ∷ winter ∷ [] }

berlin_rises : IsRising berlin.rows
berlin_rises zero l = omega (arith, ints)
berlin_rises (suc i) l = absurd (omega arith)

-- no local time of the day is reached before the first row, where its second by the winter's offset is later
berlin_spring : (wanted : ℤ) → pos 1774749600 ≤ℤ wanted → IsNotReached berlin (pos 0) wanted 1
berlin_spring wanted late = not_in berlin berlin_rises (pos 0) wanted 0 (omega arith) (λ t l. absurd (omega arith)) (omega (arith, ints))

-- 29 March has no 02:30: it is half past one by UTC, which the clock shows as 03:30
left_out : IsSecondOf (local berlin (pos 0)) (pos 0) (Time (pos 20541) 9000) (pos 1774747800)
left_out = (pos 1774746000, is_first berlin berlin_rises (pos 0) (pos 1774751400) 1 (omega arith) (berlin_spring (pos 1774751400) (omega (arith, ints))) (λ l. omega (arith, ints)), refl)

-- 25 October has 02:30 twice: it is the first, half past midnight by UTC
twice : IsSecondOf (local berlin (pos 0)) (pos 0) (Time (pos 20751) 9000) (pos 1792888200)
twice = (pos 1792888200, is_first berlin berlin_rises (pos 0) (pos 1792895400) 1 (omega arith) (berlin_spring (pos 1792895400) (omega (arith, ints))) (λ l. omega (arith, ints)), refl)

-- 1 July begins at 22:00 of 30 June by UTC
begins : IsSecondOf (local berlin (pos 0)) (pos 0) (Day (pos 20635)) (pos 1782856800)
begins = is_first berlin berlin_rises (pos 0) (pos 1782864000) 1 (omega arith) (berlin_spring (pos 1782864000) (omega (arith, ints))) (λ l. omega (arith, ints))

-- Samoa had no 30 December of 2011, but went a day forward at 10:00 by UTC: its day is the next
abbrev samoa : ClockRows
samoa = record {
  first = (row (pos 0) (neg_ℤ (pos 36000)) (omega (arith, ints)) (omega (arith, ints))).offset;
  rows = row (pos 1325239200) (pos 50400) (omega (arith, ints)) (omega (arith, ints)) ∷ [];
}

samoa_rises : IsRising samoa.rows
samoa_rises i l = absurd (omega arith)

day_left_out : IsSecondOf (local samoa (pos 0)) (pos 0) (Day (pos 15338)) (pos 1325239200)
day_left_out = is_first samoa samoa_rises (pos 0) (pos 1325203200) 1 (omega arith)
    (not_in samoa samoa_rises (pos 0) (pos 1325203200) 0 (omega arith) (λ t l. absurd (omega arith)) (omega (arith, ints))) (λ l. absurd (omega arith))

next_day : IsSecondOf (local samoa (pos 0)) (pos 0) (Day (pos 15339)) (pos 1325239200)
next_day = is_first samoa samoa_rises (pos 0) (pos 1325289600) 1 (omega arith)
    (not_in samoa samoa_rises (pos 0) (pos 1325289600) 0 (omega arith) (λ t l. absurd (omega arith)) (omega (arith, ints))) (λ l. absurd (omega arith))

-- 2039 has no row: the last offset holds, here that of UTC with minutes to the west on top
late : IsSecondOf (local utc (neg_ℤ (pos 300))) (pos 0) (Time (pos 25202) 0) (pos 2177470800)
late = (pos 2177470800, is_first utc (λ i l. absurd (omega arith)) (neg_ℤ (pos 300)) (pos 2177452800) 0 (omega arith) (λ t l. absurd (omega arith)) (λ l. absurd (omega arith)), refl)
