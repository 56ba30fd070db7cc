use Rattle.std.proofs.Common.{◌≡◌, ◌∙◌, ℕ, ◌+◌, ◌-◌, ◌<◌, ◌≤◌, ◌^◌, cond, List, ℤ, pos, negsuc, neg_ℤ, ◌+ℤ◌, ◌*ℤ◌, ◌≤ℤ◌, length, sym, ap, subst, arith, to_z, of_z, w32, w64}
use Rattle.std.proofs.lemmas.Int.{ints, to_z-of_z}
use Rattle.std.specs.Prelude.{bytes_eq, unsigned_abs}
use Rattle.tally_sessions.proofs.connect.CutLemmas.{change_next, change_past}
use Rattle.tally_sessions.proofs.connect.UserCounts.{IsPopped, no_counts}
use Rattle.tally_sessions.proofs.connect.UserRowWalk.{left_bounds, left_end, left_nearer, left_past, left_step, past_nearer, popped_counts_few, row_in, times_few}
use Rattle.tally_sessions.proofs.days.ClockDays.{near_local}
use Rattle.tally_sessions.specs.Days.{IsOffset, local}
use Rattle.tally_sessions.specs.declared.connect.keys.DayUser.{DayUser}
use Rattle.tally_sessions.specs.inside.Changes.{AreWithin, count_of, day_change, rows_ahead, told_of}
use Rattle.tally_sessions.specs.inside.Counts.{change_since, size_of, stand_for}
use Rattle.tally_sessions.specs.inside.Spans.{span_change}
use Rattle.tally_sessions.proofs.connect.day_user_rows.add_rows.Goals as goal

abbrev held : ℤ → ℤ
held z = to_z w32 (of_z w32 z)

abbrev kept : ℤ → ℤ
kept z = to_z w64 (of_z w64 z)

-- a count as the code has it
record IsKept (v : ℤ) : Type 0 where
  same : kept v ≡ v
  low : neg_ℤ (pos 33554432) ≤ℤ kept v
  high : kept v ≤ℤ pos 33554432
  few : unsigned_abs (kept v) ≤ 67108864

is_kept : (v : ℤ) → unsigned_abs v ≤ 33554432 → IsKept v
is_kept v few = let low = by_low v few in let high = by_high v few in record { same = omega (arith, ints); low = omega (arith, ints); high = omega (arith, ints); few = subst (λ (z : ℤ). unsigned_abs z ≤ 67108864) (sym (same v low high)) (omega arith) }
  where
    by_low : (v : ℤ) → unsigned_abs v ≤ 33554432 → neg_ℤ (pos 33554432) ≤ℤ v
    by_low v few = grind (arith, ints)

    by_high : (v : ℤ) → unsigned_abs v ≤ 33554432 → v ≤ℤ pos 33554432
    by_high v few = grind (arith, ints)

    same : (v : ℤ) → neg_ℤ (pos 33554432) ≤ℤ v → v ≤ℤ pos 33554432 → kept v ≡ v
    same v low high = omega (arith, ints)

none_is : (v : ℤ) → unsigned_abs v ≤ 33554432 → of_z w64 v ≡ 0 → v ≡ pos 0
none_is (pos n) few e = ap pos e
none_is (negsuc n) few e = absurd (omega arith)

pub row_span-requires-clause-row_in : goal.row_span-requires-clause-row_in
row_span-requires-clause-row_in c =
    let out : IsPopped c.loop-at.counts.entries c.pop_first.new.self.entries c.in-Some.at c.in-Some.times = record { value = c.in-Some.ensures.value; updates = c.in-Some.ensures.updates.0 } in
    row_in _ _ _ _ _ _ _ _ c.loop-at.invariant out

pub add_changes-requires-clause-low : goal.add_changes-requires-clause-low
add_changes-requires-clause-low c k =
    let offset = to_z-of_z w32 c.args.offset c.ranges.offset in
    (left_bounds _ _ _ _ _ (near_local c.args.clock.now (held c.args.offset) (subst IsOffset (sym offset) c.requires.offset_in)) c.loop-at.invariant
    (subst (λ (z : ℤ). (k : DayUser) → neg_ℤ (pos (2 ^ 60)) ≤ℤ told_of (local c.args.clock.now z) c.args.clock.now.rows c.args.changes.now.entries c.args.counts.now.entries k) (sym offset) c.requires.low)
    (subst (λ (z : ℤ). (k : DayUser) → told_of (local c.args.clock.now z) c.args.clock.now.rows c.args.changes.now.entries c.args.counts.now.entries k ≤ℤ pos (2 ^ 60)) (sym offset) c.requires.high) k).0

pub add_changes-requires-clause-high : goal.add_changes-requires-clause-high
add_changes-requires-clause-high c k =
    let offset = to_z-of_z w32 c.args.offset c.ranges.offset in
    (left_bounds _ _ _ _ _ (near_local c.args.clock.now (held c.args.offset) (subst IsOffset (sym offset) c.requires.offset_in)) c.loop-at.invariant
    (subst (λ (z : ℤ). (k : DayUser) → neg_ℤ (pos (2 ^ 60)) ≤ℤ told_of (local c.args.clock.now z) c.args.clock.now.rows c.args.changes.now.entries c.args.counts.now.entries k) (sym offset) c.requires.low)
    (subst (λ (z : ℤ). (k : DayUser) → told_of (local c.args.clock.now z) c.args.clock.now.rows c.args.changes.now.entries c.args.counts.now.entries k ≤ℤ pos (2 ^ 60)) (sym offset) c.requires.high) k).1

pub add_changes-requires-clause-times_low : goal.add_changes-requires-clause-times_low
add_changes-requires-clause-times_low c =
    let out : IsPopped c.loop-at.counts.entries c.pop_first.new.self.entries c.in-Some.at c.in-Some.times = record { value = c.in-Some.ensures.value; updates = c.in-Some.ensures.updates.0 } in
    (is_kept c.in-Some.times (times_few _ _ _ _ _ _ _ _ c.loop-at.invariant out)).low

pub add_changes-requires-clause-times_high : goal.add_changes-requires-clause-times_high
add_changes-requires-clause-times_high c =
    let out : IsPopped c.loop-at.counts.entries c.pop_first.new.self.entries c.in-Some.at c.in-Some.times = record { value = c.in-Some.ensures.value; updates = c.in-Some.ensures.updates.0 } in
    (is_kept c.in-Some.times (times_few _ _ _ _ _ _ _ _ c.loop-at.invariant out)).high

pub count_on-requires-clause-row_in : goal.count_on-requires-clause-row_in
count_on-requires-clause-row_in c =
    let out : IsPopped c.loop-at.counts.entries c.pop_first.new.self.entries c.in-Some.at c.in-Some.times = record { value = c.in-Some.ensures.value; updates = c.in-Some.ensures.updates.0 } in
    subst (λ (m : ℕ). c.in-Some.at.row < m) (sym (ap length c.rows-rows.ensures.value)) (row_in _ _ _ _ _ _ _ _ c.loop-at.invariant out)

pub count_on-requires-clause-few : goal.count_on-requires-clause-few
count_on-requires-clause-few c row =
    let out : IsPopped c.loop-at.counts.entries c.pop_first.new.self.entries c.in-Some.at c.in-Some.times = record { value = c.in-Some.ensures.value; updates = c.in-Some.ensures.updates.0 } in
    let few = popped_counts_few _ _ _ _ _ _ _ _ c.loop-at.invariant out c.in-Some.at.user row in
    omega (arith, few)

pub count_on-requires-clause-times_few : goal.count_on-requires-clause-times_few
count_on-requires-clause-times_few c =
    let out : IsPopped c.loop-at.counts.entries c.pop_first.new.self.entries c.in-Some.at c.in-Some.times = record { value = c.in-Some.ensures.value; updates = c.in-Some.ensures.updates.0 } in
    (is_kept c.in-Some.times (times_few _ _ _ _ _ _ _ _ c.loop-at.invariant out)).few

pub loop-at-smaller-in-Continue-branch-2 : goal.loop-at-smaller-in-Continue-branch-2
loop-at-smaller-in-Continue-branch-2 c =
    let out : IsPopped c.loop-at.counts.entries c.pop_first.new.self.entries c.in-Some.at c.in-Some.times = record { value = c.in-Some.ensures.value; updates = c.in-Some.ensures.updates.0 } in
    left_nearer _ _ _ _ _ _ _ _ c.loop-at.invariant out c.count_on.new.counts.entries c.in-Some.ensures.removal
    (subst (λ (m : ℕ). rows_ahead m c.count_on.new.counts.entries ≤ rows_ahead m c.pop_first.new.self.entries + (m - (c.in-Some.at.row + 1))) (ap length c.rows-rows.ensures.value) c.in_ok-count_on.ensures.nearer)

pub loop-at-preserved-in-Continue-branch-2 : goal.loop-at-preserved-in-Continue-branch-2
loop-at-preserved-in-Continue-branch-2 c =
    let clock = local c.args.clock.now (held c.args.offset) in
    let rows = c.args.clock.now.rows in
    let at = c.in-Some.at in
    let v = c.in-Some.times in
    let old = c.loop-at.changes.entries in
    let popped = c.pop_first.new.self.entries in
    let last = c.count_on.new.counts.entries in
    let span = c.row_span.result in
    let out : IsPopped c.loop-at.counts.entries popped at v = record { value = c.in-Some.ensures.value; updates = c.in-Some.ensures.updates.0 } in
    let same = (is_kept v (times_few _ _ _ _ _ _ _ _ c.loop-at.invariant out)).same in
    let n = ap length c.rows-rows.ensures.value in
    let counted = subst (λ (m : ℕ). (change : ℕ → ℤ) (name : List ℕ) → change m ≡ pos 0 → stand_for (count_of last name) change m ≡ stand_for (count_of popped name) change m +ℤ cond (bytes_eq at.user name) (kept v *ℤ change (at.row + 1)) (pos 0)) n c.in_ok-count_on.ensures.value in
    let sizes = subst (λ (m : ℕ). (name : List ℕ) → size_of (count_of last name) m ≤ size_of (count_of popped name) m + cond (bytes_eq at.user name) (unsigned_abs (kept v)) 0) n c.in_ok-count_on.ensures.size in
    left_step _ _ _ _ _ _ _ _ c.loop-at.invariant out c.add_changes.new.changes.entries last span.begin span.end_time
    (change_next clock rows span.begin span.end_time at.row c.row_span.ensures)
    (λ k. c.in_ok-add_changes.ensures k ∙ ap (λ (z : ℤ). day_change old k +ℤ cond (bytes_eq at.user k.user) (z *ℤ span_change k.day span.begin span.end_time) (pos 0)) same)
    (λ k. counted (change_since clock rows k.day) k.user (change_past clock rows k.day (length rows) (omega arith))
    ∙ ap (λ (z : ℤ). stand_for (count_of popped k.user) (change_since clock rows k.day) (length rows) +ℤ cond (bytes_eq at.user k.user) (z *ℤ change_since clock rows k.day (at.row + 1)) (pos 0)) same)
    (λ name. subst (λ (z : ℤ). size_of (count_of last name) (length rows) ≤ size_of (count_of popped name) (length rows) + cond (bytes_eq at.user name) (unsigned_abs z) 0) same (sizes name))
    (subst (λ (m : ℕ). AreWithin popped m → AreWithin last m) n c.in_ok-count_on.ensures.within)

pub loop-at-smaller : goal.loop-at-smaller
loop-at-smaller c =
    let out : IsPopped c.loop-at.counts.entries c.pop_first.new.self.entries c.in-Some.at c.in-Some.times = record { value = c.in-Some.ensures.value; updates = c.in-Some.ensures.updates.0 } in
    past_nearer _ _ _ _ _ _ _ _ c.loop-at.invariant out c.in-Some.ensures.removal

pub loop-at-preserved : goal.loop-at-preserved
loop-at-preserved c =
    let out : IsPopped c.loop-at.counts.entries c.pop_first.new.self.entries c.in-Some.at c.in-Some.times = record { value = c.in-Some.ensures.value; updates = c.in-Some.ensures.updates.0 } in
    let few = times_few _ _ _ _ _ _ _ _ c.loop-at.invariant out in
    left_past _ _ _ _ _ _ _ _ c.loop-at.invariant out (none_is c.in-Some.times few c.if-times-ne0.false)

pub returns : goal.returns
returns c k =
    left_end _ _ _ _ _ c.loop-at.invariant (no_counts c.loop-at.counts.entries c.in_default.ensures.variant.1) k
    ∙ ap (λ (z : ℤ). told_of (local c.args.clock.now z) c.args.clock.now.rows c.args.changes.now.entries c.args.counts.now.entries k) (to_z-of_z w32 c.args.offset c.ranges.offset)
