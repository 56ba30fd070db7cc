use Rattle.std.proofs.Common.{◌≡◌, ◌∙◌, ◌≤◌, ◌*◌, ℤ, pos, neg_ℤ, ◌-ℤ◌, ◌*ℤ◌, ◌≤ℤ◌, FitsSigned, ap, arith, w32, w64, to_z, of_z}
use Rattle.std.proofs.lemmas.Int.{ints, to_z-of_z}
use Rattle.std.specs.Prelude.{unsigned_abs}
use Rattle.tally_sessions.proofs.connect.Weights.{product-high, product-low}
use Rattle.tally_sessions.proofs.days.SpanLemmas.{span_change-few, span_on-le}
use Rattle.tally_sessions.specs.inside.Spans.{span_change, span_on}
use Rattle.tally_sessions.proofs.connect.span.Span.change_on.Goals as goal

abbrev kept : ℤ → ℤ
kept z = to_z w64 (of_z w64 z)

change_kept : (x y : ℤ) (day b e : ℤ) → x ≡ pos (span_on day b e) → y ≡ pos (span_on (day -ℤ pos 1) b e) → kept (kept x -ℤ kept y) ≡ span_change day b e
change_kept x y day b e is is' = let few = span_on-le day b e in let few' = span_on-le (day -ℤ pos 1) b e in omega (arith, ints)

times_small : (times : ℤ) → neg_ℤ (pos 33554432) ≤ℤ times → times ≤ℤ pos 33554432 → unsigned_abs times ≤ 33554432
times_small times low high = grind (arith, ints)

times_kept : (times : ℤ) → neg_ℤ (pos 33554432) ≤ℤ times → times ≤ℤ pos 33554432 → kept times ≡ times
times_kept times low high = omega (arith, ints)

-- what the call computes, and that it is small
record IsProduct (times x : ℤ) : Type 0 where
  low : neg_ℤ (pos (33554432 * 86400)) ≤ℤ (times *ℤ x)
  high : (times *ℤ x) ≤ℤ pos (33554432 * 86400)

product : (times day b e : ℤ) → neg_ℤ (pos 33554432) ≤ℤ times → times ≤ℤ pos 33554432 → IsProduct times (span_change day b e)
product times day b e low high =
    let few = times_small times low high in
    let change = span_change-few day b e in
    record { low = product-low times (span_change day b e) 33554432 86400 few change; high = product-high times (span_change day b e) 33554432 86400 few change }

factors : (c : goal.After-seconds_on-2)
    → kept c.args.times *ℤ kept (kept c.seconds_on.result -ℤ kept c.seconds_on-2.result) ≡ c.args.times *ℤ span_change c.args.day c.args.self.now.begin c.args.self.now.end_time
factors c =
    let s = c.args.self.now in
    let day : to_z w32 (of_z w32 c.args.day) ≡ c.args.day = to_z-of_z w32 c.args.day c.ranges.day in
    let before : to_z w32 (of_z w32 (to_z w32 (of_z w32 c.args.day) -ℤ pos 1)) ≡ c.args.day -ℤ pos 1 = omega (arith, ints, c.requires.after_first) in
    let first : c.seconds_on.result ≡ pos (span_on c.args.day s.begin s.end_time) = c.seconds_on.ensures.value ∙ ap (λ (d : ℤ). pos (span_on d s.begin s.end_time)) day in
    let second : c.seconds_on-2.result ≡ pos (span_on (c.args.day -ℤ pos 1) s.begin s.end_time) = c.seconds_on-2.ensures.value ∙ ap (λ (d : ℤ). pos (span_on d s.begin s.end_time)) before in
    λ i. times_kept c.args.times c.requires.times_low c.requires.times_high i *ℤ change_kept c.seconds_on.result c.seconds_on-2.result c.args.day s.begin s.end_time first second i

fits : (z x : ℤ) → z ≡ x → neg_ℤ (pos (33554432 * 86400)) ≤ℤ x → x ≤ℤ pos (33554432 * 86400) → FitsSigned w64 z × (kept z ≡ x)
fits z x is low high = (omega (arith, ints), omega (arith, ints))

small : (z x : ℤ) → z ≡ x → neg_ℤ (pos (33554432 * 86400)) ≤ℤ x → x ≤ℤ pos (33554432 * 86400) → (neg_ℤ (pos 2899102924800) ≤ℤ kept z) × (kept z ≤ℤ pos 2899102924800)
small z x is low high = (omega (arith, ints), omega (arith, ints))

pub overflow_mul-result : goal.overflow_mul-result
overflow_mul-result c =
    let p = product c.args.times c.args.day c.args.self.now.begin c.args.self.now.end_time c.requires.times_low c.requires.times_high in
    (fits _ _ (factors c) p.low p.high).0

pub returns-clause-value : goal.returns-clause-value
returns-clause-value c =
    let p = product c.args.times c.args.day c.args.self.now.begin c.args.self.now.end_time c.requires.times_low c.requires.times_high in
    (fits _ _ (factors c) p.low p.high).1

pub returns-clause-low : goal.returns-clause-low
returns-clause-low c =
    let p = product c.args.times c.args.day c.args.self.now.begin c.args.self.now.end_time c.requires.times_low c.requires.times_high in
    (small _ _ (factors c) p.low p.high).0

pub returns-clause-high : goal.returns-clause-high
returns-clause-high c =
    let p = product c.args.times c.args.day c.args.self.now.begin c.args.self.now.end_time c.requires.times_low c.requires.times_high in
    (small _ _ (factors c) p.low p.high).1
