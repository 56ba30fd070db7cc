-- The civil date of a day of the years 1901 to 2106 is the date that has it.
use Rattle.std.proofs.Common.{◌≡◌, ◌+◌, ◌-◌, ◌≤◌, true, false, refl, sym, ap, ◌∙◌, arith, rules, ℤ, pos, ◌+ℤ◌, ◌-ℤ◌, ◌<ℤ◌, ◌≤ℤ◌, int_le, unsigned_abs}
use Rattle.std.proofs.lemmas.Int.{by_lt_z, ints}
use Rattle.std.specs.Int.{int_div_euclid}
use Rattle.jiff_core.specs.declared.civil.date.Date.{Date}
use Rattle.jiff_core.specs.Calendar.{day_count, days_of_years, days_of_months, days_from_civil}
use Rattle.jiff_core.specs.Date.{epoch_day}
use Rattle.jiff_core.proofs.CalendarLemmas.{days_in_month_bounds}
use Rattle.jiff_core.proofs.SignedLemmas.{signed_arith, int_div_euclid-parts}
use Rattle.jiff_core.proofs.DateLemmas.{days_from_civil-day}
use Rattle.tally_check_text.specs.Moments.{year_of, month_of, day_of_month}
use Rattle.tally_check_text.specs.inside.Moments.{IsAhead, IsRecorded, IsShownDay}
use Rattle.tally_print.proofs.CivilLemmas.{before_month, count_by-range, day_1901, from_month, pos-unsigned_abs}

day_2107 : days_from_civil (pos 2107) 1 1 ≡ pos 50_038
unfolding days_from_civil day_count days_of_years days_of_months
day_2107 = refl

-- the years of the days that are shown
pub shown_years : (d : Date) → IsShownDay (epoch_day d) → (pos 1901 ≤ℤ d.year) × (d.year ≤ℤ pos 2106)
shown_years d h = (
  by_lt_z d.year (pos 1901) (λ lt. absurd (let before = before_month d (pos 1901) 1 (omega arith) (omega arith) (omega (arith, signed_arith, d.month_in.1)) in omega (arith, signed_arith, before, day_1901, h.low))) (λ ge. ge),
  by_lt_z (pos 2106) d.year (λ lt. absurd (let after = from_month d (pos 2107) 1 (search rules) (omega (arith, signed_arith, d.month_in.0)) in omega (arith, signed_arith, after, day_2107, h.high))) (λ ge. ge),
)

int_le-true : (a b : ℤ) → a ≤ℤ b → int_le a b ≡ true
int_le-true a b h = grind (arith, ints)

int_le-false : (a b : ℤ) → b <ℤ a → int_le a b ≡ false
int_le-false a b h = grind (arith, ints)

-- the year of a date is the count of the years that began
year-year_of : (d : Date) → IsShownDay (epoch_day d) → d.year ≡ pos (year_of (epoch_day d))
unfolding year_of
year-year_of d h =
    let years = shown_years d h in
    let own = pos-unsigned_abs d.year (omega (arith, signed_arith, years.0)) in
    let low : 1901 ≤ unsigned_abs d.year = omega (arith, signed_arith, years.0, own) in
    let high : unsigned_abs d.year ≤ 2106 = omega (arith, signed_arith, years.1, own) in
    let count = count_by-range (λ y. int_le (days_from_civil (pos y) 1 1) (epoch_day d)) 1901 206 (unsigned_abs d.year - 1900) (omega arith)
    (λ i under. int_le-true _ _ (from_month d (pos (1901 + i)) 1 ((omega (arith, signed_arith), omega (arith, signed_arith)), (omega arith, omega arith), (omega arith, omega arith)) (omega (arith, signed_arith, own, d.month_in.0))))
    (λ i over in_range. int_le-false _ _ (before_month d (pos (1901 + i)) 1 (omega arith) (omega arith) (omega (arith, signed_arith, own, d.month_in.1)))) in
    own ∙ ap pos (omega (arith, count))

-- the month of a date is the count of the months of its year that began
month-month_of : (d : Date) → IsShownDay (epoch_day d) → d.month ≡ month_of (epoch_day d)
unfolding month_of
month-month_of d h =
    let year = year-year_of d h in
    let count = count_by-range (λ m. int_le (days_from_civil d.year m 1) (epoch_day d)) 1 12 d.month d.month_in.1
    (λ i under. int_le-true _ _ (from_month d d.year (1 + i) (d.year_in, (omega arith, omega (arith, d.month_in.1)), (omega arith, omega (arith, (days_in_month_bounds d.year (1 + i)).1))) (omega (arith, signed_arith))))
    (λ i over in_range. int_le-false _ _ (before_month d d.year (1 + i) (omega arith) (omega arith) (omega (arith, signed_arith)))) in
    rw (← year) (sym count)

day-day_of_month : (d : Date) → IsShownDay (epoch_day d) → d.day ≡ day_of_month (epoch_day d)
unfolding day_of_month
day-day_of_month d h =
    let day = days_from_civil-day d.year d.month 1 d.day (omega arith) d.day_in.0 in
    let since : epoch_day d -ℤ days_from_civil d.year d.month 1 ≡ pos (d.day - 1) = omega (arith, signed_arith, day, d.day_in.0) in
    rw (← year-year_of d h, ← month-month_of d h) (rw since (omega (arith, d.day_in.0)))

-- the parts of the date that a day has
pub parts_of_day : (d : Date) (day : ℤ) → epoch_day d ≡ day → IsShownDay day → (d.year ≡ pos (year_of day)) × (d.month ≡ month_of day) × (d.day ≡ day_of_month day)
parts_of_day d day same is =
    let own : IsShownDay (epoch_day d) = rw same is in
    (year-year_of d own ∙ ap (λ (x : ℤ). pos (year_of x)) same, month-month_of d own ∙ ap month_of same, day-day_of_month d own ∙ ap day_of_month same)

-- the days on which the seconds of records fall
pub recorded_day : (time ahead : ℤ) → IsRecorded time → IsAhead ahead → IsShownDay (int_div_euclid (time +ℤ ahead) (pos 86_400))
recorded_day time ahead fits within =
    let parts = int_div_euclid-parts (time +ℤ ahead) 86_400 (omega arith) in
    record {
      low = omega (arith, signed_arith, parts, fits.low, within.low, within.high);
      high = omega (arith, signed_arith, parts, fits.high, within.low, within.high);
    }
