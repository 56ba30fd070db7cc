use Rattle.std.proofs.Common.{◌≡◌, ◌∙◌, ◌^◌, ℤ, pos, neg_ℤ, ◌+ℤ◌, ◌-ℤ◌, ◌*ℤ◌, ◌≤ℤ◌, FitsSigned, sym, ap, subst, arith, w32, w64, to_z, of_z}
use Rattle.std.proofs.lemmas.Int.{ints, clamps}
use Rattle.std.specs.Int.{int_max, int_min}
use Rattle.std.specs.Prelude.{unsigned_abs}
use Rattle.tally_clock.specs.Days.{seconds_between}
use Rattle.tally_sessions.proofs.days.SpanLemmas.{span_on-le}
use Rattle.tally_sessions.specs.inside.Spans.{day_start, IsLocal, span_on}
use Rattle.tally_sessions.proofs.connect.span.Span.seconds_on.Goals as goal

abbrev kept : ℤ → ℤ
kept z = to_z w64 (of_z w64 z)

-- a number that is far from the ends of its type
record IsSmall (z : ℤ) : Type 0 where
  low : neg_ℤ (pos (2 ^ 50)) ≤ℤ z
  high : z ≤ℤ pos (2 ^ 50)

max_small : (x y : ℤ) → IsSmall x → IsSmall y → IsSmall (int_max x y)
max_small x y a b = record { low = by_low a.low b.low; high = by_high a.high b.high }
  where
    by_low : neg_ℤ (pos (2 ^ 50)) ≤ℤ x → neg_ℤ (pos (2 ^ 50)) ≤ℤ y → neg_ℤ (pos (2 ^ 50)) ≤ℤ int_max x y
    by_low h k = grind (arith, ints, clamps)

    by_high : x ≤ℤ pos (2 ^ 50) → y ≤ℤ pos (2 ^ 50) → int_max x y ≤ℤ pos (2 ^ 50)
    by_high h k = grind (arith, ints, clamps)

min_small : (x y : ℤ) → IsSmall x → IsSmall y → IsSmall (int_min x y)
min_small x y a b = record { low = by_low a.low b.low; high = by_high a.high b.high }
  where
    by_low : neg_ℤ (pos (2 ^ 50)) ≤ℤ x → neg_ℤ (pos (2 ^ 50)) ≤ℤ y → neg_ℤ (pos (2 ^ 50)) ≤ℤ int_min x y
    by_low h k = grind (arith, ints, clamps)

    by_high : x ≤ℤ pos (2 ^ 50) → y ≤ℤ pos (2 ^ 50) → int_min x y ≤ℤ pos (2 ^ 50)
    by_high h k = grind (arith, ints, clamps)

local_small : (z : ℤ) → IsLocal z → IsSmall z
local_small z h = let low = h.low in let high = h.high in record { low = omega (arith, ints); high = omega (arith, ints) }

start_small : (day : ℤ) → FitsSigned w32 day → IsSmall (day_start day) × IsSmall (day_start day +ℤ pos 86400)
start_small day h = (record { low = omega (arith, ints); high = omega (arith, ints) }, record { low = omega (arith, ints); high = omega (arith, ints) })

start_kept : (day z : ℤ) → FitsSigned w32 day → z ≡ to_z w32 (of_z w32 day) → kept (pos 86400 *ℤ kept z) ≡ day_start day
start_kept day z h is = omega (arith, ints)

next_kept : (s day : ℤ) → FitsSigned w32 day → s ≡ day_start day → kept (s +ℤ pos 86400) ≡ day_start day +ℤ pos 86400
next_kept s day h is = omega (arith, ints)

same_small : (z : ℤ) → IsSmall z → kept z ≡ z
same_small z h = let low = h.low in let high = h.high in omega (arith, ints)

-- both ends of the seconds of a day
record AreEnds (begin end_time day m n : ℤ) : Type 0 where
  from : m ≡ int_max begin (day_start day)
  to : n ≡ int_min end_time (day_start day +ℤ pos 86400)
  from_small : IsSmall m
  to_small : IsSmall n

ends_are : (begin end_time day z m n : ℤ) → IsLocal begin → IsLocal end_time → FitsSigned w32 day → z ≡ to_z w32 (of_z w32 day) → m ≡ int_max (kept begin) (kept (pos 86400 *ℤ kept z))
    → n ≡ int_min (kept end_time) (kept (kept (pos 86400 *ℤ kept z) +ℤ pos 86400)) → AreEnds begin end_time day m n
ends_are begin end_time day z m n b e fits is from to =
    let s = start_kept day z fits is in
    let t = next_kept _ day fits s in
    let m-is : m ≡ int_max begin (day_start day) = from ∙ (λ i. int_max (same_small begin (local_small begin b) i) (s i)) in
    let n-is : n ≡ int_min end_time (day_start day +ℤ pos 86400) = to ∙ (λ i. int_min (same_small end_time (local_small end_time e) i) (t i)) in
    record {
      from = m-is;
      to = n-is;
      from_small = subst IsSmall (sym m-is) (max_small begin (day_start day) (local_small begin b) (start_small day fits).0);
      to_small = subst IsSmall (sym n-is) (min_small end_time (day_start day +ℤ pos 86400) (local_small end_time e) (start_small day fits).1);
    }

gap_fits : (m n : ℤ) → IsSmall m → IsSmall n → FitsSigned w64 (kept n -ℤ kept m)
gap_fits m n h k = let a = h.low in let b = h.high in let d = k.low in let e = k.high in omega (arith, ints)

gap_kept : (m n : ℤ) → IsSmall m → IsSmall n → kept (kept n -ℤ kept m) ≡ n -ℤ m
gap_kept m n h k = let a = h.low in let b = h.high in let d = k.low in let e = k.high in omega (arith, ints)

pub overflow_sub-to : goal.overflow_sub-to
overflow_sub-to c =
    let s = c.args.self.now in
    let ends = ends_are s.begin s.end_time c.args.day c.from-start.result c.max-from.result c.min-to.result s.begin_in s.end_in c.ranges.day c.from-start.ensures c.max-from.ensures.value c.min-to.ensures.value in
    gap_fits c.max-from.result c.min-to.result ends.from_small ends.to_small

next_start : (day : ℤ) → day_start day +ℤ pos 86400 ≡ day_start (day +ℤ pos 1)
next_start day = omega (arith, ints)

span_is : (x y z : ℤ) → z ≡ int_max (y -ℤ x) (pos 0) → z ≡ pos (seconds_between x y)
span_is x y z is = is ∙ by (y -ℤ x)
  where
    by : (w : ℤ) → int_max w (pos 0) ≡ pos (unsigned_abs (int_max w (pos 0)))
    by w = grind (arith, ints, clamps)

value : (c : goal.After-max) → c.max.result ≡ pos (span_on c.args.day c.args.self.now.begin c.args.self.now.end_time)
unfolding span_on
value c =
    let s = c.args.self.now in
    let ends = ends_are s.begin s.end_time c.args.day c.from-start.result c.max-from.result c.min-to.result s.begin_in s.end_in c.ranges.day c.from-start.ensures c.max-from.ensures.value c.min-to.ensures.value in
    let gap = gap_kept c.max-from.result c.min-to.result ends.from_small ends.to_small in
    let to : c.min-to.result ≡ int_min s.end_time (day_start (c.args.day +ℤ pos 1)) = ends.to ∙ ap (int_min s.end_time) (next_start c.args.day) in
    span_is c.max-from.result c.min-to.result c.max.result (c.max.ensures.value ∙ ap (λ (z : ℤ). int_max z (pos 0)) gap)
    ∙ (λ i. pos (seconds_between (ends.from i) (to i)))

kept_seconds : (z : ℤ) (day b e : ℤ) → z ≡ pos (span_on day b e) → (kept z ≡ pos (span_on day b e)) × (kept z ≤ℤ pos 86400)
kept_seconds z day b e is = let few = span_on-le day b e in (omega (arith, ints), omega (arith, ints))

pub returns-clause-value : goal.returns-clause-value
returns-clause-value c = (kept_seconds c.max.result c.args.day c.args.self.now.begin c.args.self.now.end_time (value c)).0

pub returns-clause-high : goal.returns-clause-high
returns-clause-high c = (kept_seconds c.max.result c.args.day c.args.self.now.begin c.args.self.now.end_time (value c)).1
