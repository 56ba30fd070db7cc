use Rattle.std.proofs.Common.{◌≡◌, ◌∙◌, ◌<◌, ◌≤◌, ℕ, ℤ, List, pos, neg_ℤ, ◌+ℤ◌, ◌≤ℤ◌, FitsSigned, length, refl, sym, ap, subst, arith, to_z, of_z, w32, w64}
use Rattle.std.proofs.lemmas.Int.{ints, to_z-of_z}
use Rattle.std.specs.Prelude.{unsigned_abs}
use Rattle.tally_sessions.proofs.connect.CountLemmas.{size_at, size_up_to}
use Rattle.tally_sessions.proofs.connect.CutLemmas.{change_next}
use Rattle.tally_sessions.proofs.connect.RowWalk.{next_few, row_walk-end, row_walk-start, row_walk-step, row_walk-within}
use Rattle.tally_sessions.proofs.days.ClockDays.{near_local}
use Rattle.tally_sessions.specs.Days.{IsOffset, local}
use Rattle.tally_sessions.specs.inside.Changes.{change_at, told_at}
use Rattle.tally_sessions.specs.inside.Counts.{size_of}
use Rattle.tally_sessions.proofs.connect.day_sums.add_rows.Goals as goal

abbrev held : ℤ → ℤ
held z = to_z w32 (of_z w32 z)

abbrev kept : ℤ → ℤ
kept z = to_z w64 (of_z w64 z)

bounds : (z : ℤ) → unsigned_abs z ≤ 33554432 → (neg_ℤ (pos 33554432) ≤ℤ z) × (z ≤ℤ pos 33554432)
bounds z le = (by_low z le, by_high z le)
  where
    by_low : (z : ℤ) → unsigned_abs z ≤ 33554432 → neg_ℤ (pos 33554432) ≤ℤ z
    by_low z le = grind (arith, ints)

    by_high : (z : ℤ) → unsigned_abs z ≤ 33554432 → z ≤ℤ pos 33554432
    by_high z le = grind (arith, ints)

-- how often a row is added
record IsNext (counts : List ℤ) (times : ℤ) (row : ℕ) : Type 0 where
  fits : FitsSigned w64 (times +ℤ kept (change_at counts row))
  value : kept (times +ℤ kept (change_at counts row)) ≡ times +ℤ change_at counts row
  low : neg_ℤ (pos 33554432) ≤ℤ kept (times +ℤ kept (change_at counts row))
  high : kept (times +ℤ kept (change_at counts row)) ≤ℤ pos 33554432

sum : (t z : ℤ) → (neg_ℤ (pos 33554432) ≤ℤ t) × (t ≤ℤ pos 33554432) → (neg_ℤ (pos 33554432) ≤ℤ z) × (z ≤ℤ pos 33554432) → FitsSigned w64 (t +ℤ kept z) × (kept (t +ℤ kept z) ≡ t +ℤ z)
sum t z a b = let low = a.0 in let high = a.1 in let low' = b.0 in let high' = b.1 in (omega (arith, ints), omega (arith, ints))

next : (counts : List ℤ) (times : ℤ) (row n : ℕ) → row < n → size_of (change_at counts) n ≤ 33554432 → unsigned_abs times ≤ size_of (change_at counts) row → IsNext counts times row
next counts times row n lt few small =
    let up = size_up_to (change_at counts) row n (omega arith) in
    let t = bounds times (omega arith) in
    let one = size_at (change_at counts) row n lt in
    let z = bounds (change_at counts row) (omega arith) in
    let s = sum times (change_at counts row) t z in
    let b = bounds (kept (times +ℤ kept (change_at counts row))) (next_few counts times _ row n lt few s.1 small) in
    record { fits = s.0; value = s.1; low = b.0; high = b.1 }

pub loop-row-init : goal.loop-row-init
loop-row-init c = row_walk-start _ _ _ _ (pos 0) c.requires.all_days refl

pub overflow_add-times : goal.overflow_add-times
overflow_add-times c =
    let n = next c.args.counts.now (to_z w64 c.loop-row.times-bits) c.loop-row.row (length c.args.counts.now) c.loop-row-test.true (subst (λ (n : ℕ). size_of (change_at c.args.counts.now) n ≤ 33554432) (sym c.requires.all_rows) c.requires.small) c.loop-row.invariant.small in
    n.fits

pub add_changes-requires-clause-low : goal.add_changes-requires-clause-low
add_changes-requires-clause-low c place =
    (row_walk-within _ _ c.args.counts.now c.args.table.now c.loop-row.table (to_z w64 c.loop-row.times-bits) c.loop-row.row (length c.args.clock.now.rows) (near_local c.args.clock.now (held c.args.offset) (subst IsOffset (sym (to_z-of_z w32 c.args.offset c.ranges.offset)) c.requires.offset_in))
    (omega (arith, c.loop-row-test.true, c.requires.all_rows)) c.requires.small c.requires.low c.requires.high c.loop-row.invariant place).0

pub add_changes-requires-clause-high : goal.add_changes-requires-clause-high
add_changes-requires-clause-high c place =
    (row_walk-within _ _ c.args.counts.now c.args.table.now c.loop-row.table (to_z w64 c.loop-row.times-bits) c.loop-row.row (length c.args.clock.now.rows) (near_local c.args.clock.now (held c.args.offset) (subst IsOffset (sym (to_z-of_z w32 c.args.offset c.ranges.offset)) c.requires.offset_in))
    (omega (arith, c.loop-row-test.true, c.requires.all_rows)) c.requires.small c.requires.low c.requires.high c.loop-row.invariant place).1

pub add_changes-requires-clause-times_low : goal.add_changes-requires-clause-times_low
add_changes-requires-clause-times_low c =
    let n = next c.args.counts.now (to_z w64 c.loop-row.times-bits) c.loop-row.row (length c.args.counts.now) c.loop-row-test.true (subst (λ (n : ℕ). size_of (change_at c.args.counts.now) n ≤ 33554432) (sym c.requires.all_rows) c.requires.small) c.loop-row.invariant.small in
    n.low

pub add_changes-requires-clause-times_high : goal.add_changes-requires-clause-times_high
add_changes-requires-clause-times_high c =
    let n = next c.args.counts.now (to_z w64 c.loop-row.times-bits) c.loop-row.row (length c.args.counts.now) c.loop-row-test.true (subst (λ (n : ℕ). size_of (change_at c.args.counts.now) n ≤ 33554432) (sym c.requires.all_rows) c.requires.small) c.loop-row.invariant.small in
    n.high

pub loop-row-preserved : goal.loop-row-preserved
loop-row-preserved c =
    let n = next c.args.counts.now (to_z w64 c.loop-row.times-bits) c.loop-row.row (length c.args.counts.now) c.loop-row-test.true (subst (λ (n : ℕ). size_of (change_at c.args.counts.now) n ≤ 33554432) (sym c.requires.all_rows) c.requires.small) c.loop-row.invariant.small in
    row_walk-step _ _ c.args.counts.now c.args.table.now c.loop-row.table c.add_changes.new.table (to_z w64 c.loop-row.times-bits) _ c.row_span.result.begin c.row_span.result.end_time c.loop-row.row c.loop-row.invariant c.add_changes.auto.table n.value
    (change_next _ _ c.row_span.result.begin c.row_span.result.end_time c.loop-row.row c.row_span.ensures)
    c.add_changes.ensures

pub returns : goal.returns
returns c place lt =
    row_walk-end _ _ c.args.counts.now c.args.table.now c.loop-row.table (to_z w64 c.loop-row.times-bits) c.loop-row.row c.loop-row.invariant (omega (arith, c.loop-row-test.false, c.loop-row.auto, c.requires.all_rows)) place lt
    ∙ ap (λ (z : ℤ). told_at (local c.args.clock.now z) c.args.clock.now.rows c.args.table.now c.args.counts.now place) (to_z-of_z w32 c.args.offset c.ranges.offset)
