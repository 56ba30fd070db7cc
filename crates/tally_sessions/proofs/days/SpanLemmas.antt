-- The days of a span of local seconds.
use Rattle.std.proofs.Common.{◌≡◌, ◌∙◌, ℕ, ◌≤◌, ℤ, pos, ◌+ℤ◌, ◌-ℤ◌, ◌≤ℤ◌, arith}
use Rattle.std.proofs.lemmas.Int.{ints, clamps}
use Rattle.std.specs.Int.{int_max, int_min}
use Rattle.std.specs.Prelude.{int_le, int_lt, unsigned_abs, true, false}
use Rattle.tally_clock.proofs.DayLemmas.{floor}
use Rattle.tally_clock.specs.Days.{seconds_between}
use Rattle.tally_sessions.specs.inside.Spans.{day_start, span_change, span_day, span_on}

pub above : (a b : ℤ) → int_lt a b ≡ false → b ≤ℤ a
above a b h = grind (arith, ints, clamps)

pub strictly : (a b : ℤ) → int_lt a b ≡ true → (a +ℤ pos 1) ≤ℤ b
strictly a b h = grind (arith, ints, clamps)

pub reach : (z : ℤ) → z ≤ℤ pos (unsigned_abs (int_max z (pos 0)))
reach z = grind (arith, ints, clamps)

-- a local second is within its day
pub day_begun : (time : ℤ) → day_start (span_day time) ≤ℤ time
unfolding span_day
day_begun time = let f = (floor time).0 in omega (arith, ints)

pub day_not_over : (time : ℤ) → (time +ℤ pos 1) ≤ℤ day_start (span_day time +ℤ pos 1)
unfolding span_day
day_not_over time = let f = (floor time).1 in omega (arith, ints)

min_at_most : (e t : ℤ) → int_min e t ≤ℤ t
min_at_most e t = grind (arith, ints, clamps)

max_at_least_last : (b s : ℤ) → s ≤ℤ int_max b s
max_at_least_last b s = grind (arith, ints, clamps)

-- a day before the first has nothing of a span
pub none_on_earlier : (day b e : ℤ) → (day +ℤ pos 1) ≤ℤ span_day b → span_on day b e ≡ 0
unfolding span_on
none_on_earlier day b e le = over_before (day_start day) (day_start (day +ℤ pos 1)) (let begun = day_begun b in omega (arith, ints, begun, le))
  where
    over_before : (s t : ℤ) → t ≤ℤ b → seconds_between (int_max b s) (int_min e t) ≡ 0
    over_before s t le' = grind (arith, ints, clamps)

-- and so a day after the last
pub none_on_later : (day b e : ℤ) → (span_day e +ℤ pos 1) ≤ℤ day → span_on day b e ≡ 0
unfolding span_on
none_on_later day b e le = begun_after (day_start day) (day_start (day +ℤ pos 1)) (let over = day_not_over e in omega (arith, ints, over, le))
  where
    begun_after : (s t : ℤ) → e ≤ℤ s → seconds_between (int_max b s) (int_min e t) ≡ 0
    begun_after s t le' = grind (arith, ints, clamps)

pub few_between : (x y : ℤ) (n : ℕ) → y ≤ℤ (x +ℤ pos n) → seconds_between x y ≤ n
few_between x y n le = grind (arith, ints, clamps)

-- a day has 86,400 seconds
pub span_on-le : (day b e : ℤ) → span_on day b e ≤ 86400
unfolding span_on
span_on-le day b e =
    let t = day_start (day +ℤ pos 1) in
    let s = day_start day in
    let low = min_at_most e t in
    let high = max_at_least_last b s in
    few_between (int_max b s) (int_min e t) 86400 (omega (arith, ints, low, high))

full : (x y : ℤ) (n : ℕ) → y ≡ x +ℤ pos n → seconds_between x y ≡ n
full x y n e = grind (arith, ints, clamps)

max_last : (b s : ℤ) → b ≤ℤ s → int_max b s ≡ s
max_last b s le = grind (arith, ints, clamps)

min_last : (e t : ℤ) → t ≤ℤ e → int_min e t ≡ t
min_last e t le = grind (arith, ints, clamps)

-- a day between the first and the last is whole
whole_day : (day b e : ℤ) → (span_day b +ℤ pos 1) ≤ℤ day → (day +ℤ pos 1) ≤ℤ span_day e → span_on day b e ≡ 86400
unfolding span_on
whole_day day b e from to =
    let begun = day_begun e in
    let over = day_not_over b in
    let s = day_start day in
    let t = day_start (day +ℤ pos 1) in
    (λ i. seconds_between (max_last b s (omega (arith, ints, over, from)) i) (min_last e t (omega (arith, ints, begun, to)) i))
    ∙ full s t 86400 (omega (arith, ints))

same_seconds : (m n k : ℕ) → m ≡ k → n ≡ k → pos m -ℤ pos n ≡ pos 0
same_seconds m n k h h' = omega (arith, ints)

pub no_change_before : (day b e : ℤ) → (day +ℤ pos 1) ≤ℤ span_day b → span_change day b e ≡ pos 0
no_change_before day b e le =
    same_seconds (span_on day b e) (span_on (day -ℤ pos 1) b e) 0 (none_on_earlier day b e le)
    (none_on_earlier (day -ℤ pos 1) b e (omega (arith, ints)))

pub no_change_within : (day b e : ℤ) → (span_day b +ℤ pos 2) ≤ℤ day → (day +ℤ pos 1) ≤ℤ span_day e → span_change day b e ≡ pos 0
no_change_within day b e from to =
    same_seconds (span_on day b e) (span_on (day -ℤ pos 1) b e) 86400 (whole_day day b e (omega (arith, ints)) to)
    (whole_day (day -ℤ pos 1) b e (omega (arith, ints)) (omega (arith, ints)))

pub no_change_after : (day b e : ℤ) → (span_day e +ℤ pos 2) ≤ℤ day → span_change day b e ≡ pos 0
no_change_after day b e le =
    same_seconds (span_on day b e) (span_on (day -ℤ pos 1) b e) 0 (none_on_later day b e (omega (arith, ints)))
    (none_on_later (day -ℤ pos 1) b e (omega (arith, ints)))

pub span_change-few : (day b e : ℤ) → unsigned_abs (span_change day b e) ≤ 86400
span_change-few day b e = within (span_on day b e) (span_on (day -ℤ pos 1) b e) (span_on-le day b e) (span_on-le (day -ℤ pos 1) b e)
  where
    within : (m n : ℕ) → m ≤ 86400 → n ≤ 86400 → unsigned_abs (pos m -ℤ pos n) ≤ 86400
    within m n h k = grind (arith, ints)

-- what the test of a walk says
pub not_over : (a b : ℤ) → int_le a b ≡ true → a ≤ℤ b
not_over a b h = grind (arith, ints, clamps)

pub over : (a b : ℤ) → int_le a b ≡ false → (b +ℤ pos 1) ≤ℤ a
over a b h = grind (arith, ints, clamps)
