use Rattle.std.proofs.Common.{◌≡◌, ◌∙◌, ◌^◌, ℤ, pos, neg_ℤ, ◌+ℤ◌, ◌*ℤ◌, ◌≤ℤ◌, FitsSigned, sym, ap, arith, w32, w64, to_z, of_z}
use Rattle.std.proofs.lemmas.Int.{ints, to_z-of_z}
use Rattle.tally_clock.proofs.RowLemmas.{count_fits}
use Rattle.tally_clock.specs.Rows.{offset_after}
use Rattle.tally_sessions.proofs.connect.CutLemmas.{in_row}
use Rattle.tally_sessions.specs.inside.Spans.{IsLocal, span_on}
use Rattle.tally_sessions.proofs.connect.cut.span_in.Goals as goal

abbrev held : ℤ → ℤ
held z = to_z w32 (of_z w32 z)

abbrev kept : ℤ → ℤ
kept z = to_z w64 (of_z w64 z)

pub ahead_after-requires-clause-count : goal.ahead_after-requires-clause-count
ahead_after-requires-clause-count c = let fits = count_fits c.args.clock.now.rows c.args.begin in let is = c.requires.count in omega (arith, fits, is)

-- how far local time is ahead
record IsAhead (z ahead : ℤ) : Type 0 where
  value : z ≡ held ahead
  low : neg_ℤ (pos 179939) ≤ℤ ahead
  high : ahead ≤ℤ pos 179939

moved : (t z ahead : ℤ) → IsAhead z ahead → neg_ℤ (pos (2 ^ 31)) ≤ℤ t → t ≤ℤ pos (2 ^ 31) → FitsSigned w64 (kept t +ℤ kept z) × (kept (kept t +ℤ kept z) ≡ t +ℤ ahead)
moved t z ahead h low high = let is = h.value in let l = h.low in let u = h.high in (omega (arith, ints), omega (arith, ints))

moved_local : (t z ahead : ℤ) → IsAhead z ahead → neg_ℤ (pos (2 ^ 31)) ≤ℤ t → t ≤ℤ pos (2 ^ 31) → IsLocal (kept (kept t +ℤ kept z))
moved_local t z ahead h low high = let is = h.value in let l = h.low in let u = h.high in record { low = omega (arith, ints); high = omega (arith, ints) }

ahead : (c : goal.After-from-ahead) → IsAhead c.from-ahead.result c.ahead_after.result
ahead c = record { value = c.from-ahead.ensures; low = c.ahead_after.ensures.low; high = c.ahead_after.ensures.high }

pub overflow_add-result-2 : goal.overflow_add-result-2
overflow_add-result-2 c = (moved c.args.end_time _ _ (ahead c) c.requires.end_low c.requires.end_high).0

pub invariant_of-result : goal.invariant_of-result
invariant_of-result c =
    let h = ahead c in record {
      begin_in = moved_local c.args.begin _ _ h c.requires.begin_low c.requires.begin_high;
      end_in = moved_local c.args.end_time _ _ h c.requires.end_low c.requires.end_high;
    }

pub returns : goal.returns
returns c day =
    let clock = c.args.clock.now in
    let a = c.ahead_after.ensures in
    let h : IsAhead c.from-ahead.result c.ahead_after.result = record { value = c.from-ahead.ensures; low = a.low; high = a.high } in
    let offset = to_z-of_z w32 c.args.offset c.ranges.offset in
    let value = a.value ∙ ap (λ (z : ℤ). (offset_after clock.first clock.rows c.args.count).seconds +ℤ pos 60 *ℤ z) offset in
    let begin = (moved c.args.begin _ _ h c.requires.begin_low c.requires.begin_high).1 ∙ ap (λ (z : ℤ). c.args.begin +ℤ z) value in
    let end_time = (moved c.args.end_time _ _ h c.requires.end_low c.requires.end_high).1 ∙ ap (λ (z : ℤ). c.args.end_time +ℤ z) value in
    in_row clock c.args.offset c.args.begin c.args.end_time c.args.count c.requires.count c.requires.up_to_next day
    ∙ (λ i. span_on day (sym begin i) (sym end_time i))
