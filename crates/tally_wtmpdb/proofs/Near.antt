-- That whole seconds are near to microseconds.
use Rattle.std.proofs.Common.{◌≡◌, ◌⊎◌, inl, inr, ◌+◌, ◌*◌, ◌/◌, ◌%◌, ◌≤◌, ℤ, pos, negsuc, ◌+ℤ◌, ◌-ℤ◌, ◌*ℤ◌, ◌≤ℤ◌, Bool, true, false, ◌&&◌, cond, List, [], ◌∷◌, All, length, Some, None, sum_by, refl, arith}
use Rattle.std.proofs.lemmas.Int.{by_lt_z, clamps, ints}
use Rattle.std.proofs.lemmas.List.Elements.{All-head, All-tail}
use Rattle.std.proofs.lemmas.List.Sums.{sum_by-cons}
use Rattle.std.specs.Int.{int_div_euclid}
use Rattle.std.specs.Prelude.{int_le, is_some, neg_ℤ, unwrap_or}
use Rattle.tally_clock.specs.Days.{seconds_between}
use Rattle.tally_wtmpdb.specs.Laws.{AreNear, FitsRecord, micros_between}
use Rattle.tally_wtmpdb.specs.Sessions.{second_at}
use Rattle.tally_wtmpdb.specs.declared.moment.Moment.{Moment}

abbrev whole : ℤ → ℤ
whole micros = int_div_euclid micros (pos 1000000)

floor : (z : ℤ) → ((pos 1000000 *ℤ whole z) ≤ℤ z) × ((z +ℤ pos 1) ≤ℤ ((pos 1000000 *ℤ whole z) +ℤ pos 1000000))
floor (pos a) = let q = a / 1000000 in let r = a % 1000000 in (omega (arith, ints), omega (arith, ints))
floor (negsuc a) = let q = a / 1000000 in let r = a % 1000000 in (omega (arith, ints), omega (arith, ints))

-- the seconds or microseconds of a span, where it goes forward and where it goes back
forward : (x y : ℤ) → x ≤ℤ y → pos (seconds_between x y) ≡ y -ℤ x
forward x y h = grind (arith, ints, clamps)

back : (x y : ℤ) → y ≤ℤ x → seconds_between x y ≡ 0
back x y h = grind (arith, ints, clamps)

order : (x y : ℤ) → (x ≤ℤ y) ⊎ (y ≤ℤ x)
order x y = by_lt_z x y (λ lt. inl (omega (arith, ints))) (λ le. inr le)

spans_near : (a b x y : ℤ) → (pos 1000000 *ℤ x) ≤ℤ a → (a +ℤ pos 1) ≤ℤ ((pos 1000000 *ℤ x) +ℤ pos 1000000) → (pos 1000000 *ℤ y) ≤ℤ b → (b +ℤ pos 1) ≤ℤ ((pos 1000000 *ℤ y) +ℤ pos 1000000)
    → (1000000 * seconds_between x y ≤ seconds_between a b + 999999) × (seconds_between a b ≤ 1000000 * seconds_between x y + 999999)
spans_near a b x y ax xa by yb = cases (order a b) (order x y)
  where
    cases : (a ≤ℤ b) ⊎ (b ≤ℤ a) → (x ≤ℤ y) ⊎ (y ≤ℤ x)
        → (1000000 * seconds_between x y ≤ seconds_between a b + 999999) × (seconds_between a b ≤ 1000000 * seconds_between x y + 999999)
    cases (inl ab) (inl xy) = let e = forward a b ab in let f = forward x y xy in (omega (arith, ints), omega (arith, ints))
    cases (inl ab) (inr yx) = let e = forward a b ab in let f = back x y yx in (omega (arith, ints), omega (arith, ints))
    cases (inr ba) (inl xy) = let e = back a b ba in let f = forward x y xy in (omega (arith, ints), omega (arith, ints))
    cases (inr ba) (inr yx) = let e = back a b ba in let f = back x y yx in (omega (arith, ints), omega (arith, ints))

is_whole : (m : Moment) → FitsRecord m → second_at m ≡ whole m.micros
is_whole m fits = by (int_le (neg_ℤ (pos 2147483648)) (whole m.micros) && int_le (whole m.micros) (pos 2147483647)) fits
  where
    by : (b : Bool) → is_some (cond b (Some (whole m.micros)) None) ≡ true → unwrap_or (cond b (Some (whole m.micros)) None) (pos 0) ≡ whole m.micros
    by true e = refl
    by false e = absurd cc

span_near : (a b : Moment) → FitsRecord a → FitsRecord b → AreNear 1 (micros_between a b) (seconds_between (second_at a) (second_at b))
span_near a b fa fb =
    let la = floor a.micros in
    let lb = floor b.micros in
    let near = spans_near a.micros b.micros (whole a.micros) (whole b.micros) la.0 la.1 lb.0 lb.1 in
    let same : seconds_between (second_at a) (second_at b) ≡ seconds_between (whole a.micros) (whole b.micros) = λ i. seconds_between (is_whole a fa i) (is_whole b fb i) in
    record { low = omega (arith, near.0, same); high = omega (arith, near.1, same) }

pub near : (spans : List (Moment × Moment)) → All (λ s. FitsRecord s.0 × FitsRecord s.1) spans
    → AreNear (length spans) (sum_by (λ s. micros_between s.0 s.1) spans) (sum_by (λ s. seconds_between (second_at s.0) (second_at s.1)) spans)
near [] h = record { low = omega arith; high = omega arith }
near (s ∷ spans) h =
    let fits = All-head (λ (s : Moment × Moment). FitsRecord s.0 × FitsRecord s.1) s spans h in
    let one = span_near s.0 s.1 fits.0 fits.1 in
    let rest = near spans (All-tail (λ (s : Moment × Moment). FitsRecord s.0 × FitsRecord s.1) s spans h) in
    let micros = sum_by-cons (λ (s : Moment × Moment). micros_between s.0 s.1) s spans in
    let seconds = sum_by-cons (λ (s : Moment × Moment). seconds_between (second_at s.0) (second_at s.1)) s spans in
    record { low = omega (arith, one.low, rest.low, micros, seconds); high = omega (arith, one.high, rest.high, micros, seconds) }
