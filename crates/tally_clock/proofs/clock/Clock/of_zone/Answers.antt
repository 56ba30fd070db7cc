use Rattle.std.proofs.Common.{◌≡◌, ◌∙◌, ◌^◌, ◌<◌, ℕ, ℤ, List, length, pos, neg_ℤ, int_eq, true, false, not, Bool, refl, sym, subst, arith, to_z, of_z, w32, w64}
use Rattle.std.proofs.lemmas.Int.{ints, clamps}
use borrow.Author.Differences.{le-true, le-false}
use Rattle.jiff_core.proofs.SignedLemmas.{signed_arith}
use Rattle.tally_clock.specs.declared.row.Row.{Row}
use Rattle.tally_clock.specs.Rows.{row_at}
use Rattle.tally_clock.specs.Zones.{ChangesAt, ShowsZone, zone_offset}
use Rattle.tally_clock.proofs.Reached.{none_reached, row_reached, still_reached, all_reached, changes_there, left_from, fewer_left, one_more_change}
use Rattle.tally_clock.proofs.clock.Clock.of_zone.Goals as goal
use Rattle.tally_clock.proofs.clock.Clock.of_zone.Goals.{then-ne+in_ok-push_row, else-ne}

not_false : (b : Bool) → false ≡ not b → b ≡ true
not_false true e = refl
not_false false e = cc

not_true : (b : Bool) → true ≡ not b → b ≡ false
not_true true e = cc
not_true false e = refl

same_number : (a b : ℤ) → int_eq a b ≡ true → a ≡ b
same_number a b e = grind (arith, ints, clamps, e)

pub push_row-requires-clause-before : goal.push_row-requires-clause-before
push_row-requires-clause-before c = λ i l.
    let low = c.loop-time.invariant.before i l in
    let begun = c.loop-time.invariant.begun in
    let test = le-true (to_z w64 c.loop-time.time-bits) (pos 2147483647) c.loop-time-test.true in
    omega (arith, signed_arith)

pub loop-time-smaller : goal.loop-time-smaller
loop-time-smaller c =
    let test = le-true (to_z w64 c.loop-time.time-bits) (pos 2147483647) c.loop-time-test.true in
    let later = c.stays_until-time-in-loop-time.ensures.later in
    let near = c.stays_until-time-in-loop-time.ensures.near in
    let held : to_z w64 (of_z w64 c.stays_until-time-in-loop-time.result) ≡ c.stays_until-time-in-loop-time.result = omega (arith, signed_arith) in
    subst (λ (z : ℤ). left_from z < left_from (to_z w64 c.loop-time.time-bits)) (sym held) (fewer_left _ _ (omega (arith, signed_arith)) later)

pub loop-time-init : goal.loop-time-init
loop-time-init c =
    let later = c.stays_until-time.ensures.later in
    let near = c.stays_until-time.ensures.near in
    let held : to_z w64 (of_z w64 c.stays_until-time.result) ≡ c.stays_until-time.result = omega (arith, signed_arith) in
    let reached = none_reached c.args.zone.now c.zone_offset-first.result (neg_ℤ (pos (2 ^ 31))) c.stays_until-time.result refl later near c.zone_offset-first.ensures c.stays_until-time.ensures.same in
    rw held (rw c.new-rows.ensures.items reached)

pub loop-time-preserved : goal.loop-time-preserved
loop-time-preserved c =
    let begun = c.loop-time.invariant.begun in
    let test = le-true (to_z w64 c.loop-time.time-bits) (pos 2147483647) c.loop-time-test.true in
    let later = c.stays_until-time-in-loop-time.ensures.later in
    let near = c.stays_until-time-in-loop-time.ensures.near in
    let held : to_z w64 (of_z w64 c.stays_until-time-in-loop-time.result) ≡ c.stays_until-time-in-loop-time.result = omega (arith, signed_arith) in
    let narrow : to_z w32 (of_z w32 (to_z w64 c.loop-time.time-bits)) ≡ to_z w64 c.loop-time.time-bits = omega (arith, signed_arith) in
    rw held (elim c.if-ne.branch [
      | then-ne+in_ok-push_row w ↦
          rw (w.rows-is, w.offset-is) (row_reached c.args.zone.now c.zone_offset-first.result c.loop-time.rows.items _ c.loop-time.offset.seconds c.zone_offset-next.result.seconds (to_z w64 c.loop-time.time-bits) c.stays_until-time-in-loop-time.result
          c.loop-time.invariant later near c.stays_until-time-in-loop-time.ensures.same c.zone_offset-next.ensures
          w.in_ok-push_row.ensures.rising
          (w.in_ok-push_row.ensures.before c.stays_until-time-in-loop-time.result (rw narrow later))
          (subst (λ (rs : List Row). (i : ℕ) → i < length rs → ChangesAt (zone_offset c.args.zone.now) (row_at rs i).from) (sym w.in_ok-push_row.ensures.pushed)
          (one_more_change c.args.zone.now c.loop-time.rows.items _ c.loop-time.invariant.changes
          (rw narrow (changes_there c.args.zone.now (to_z w64 c.loop-time.time-bits) c.zone_offset-next.result.seconds c.loop-time.offset.seconds begun (omega (arith, signed_arith)) c.loop-time.invariant.last c.zone_offset-next.ensures (not_true _ w.if-ne.ensures)))))
          (λ n. rw narrow at (w.in_ok-push_row.ensures.offsets c.zone_offset-first.result n)))
      | else-ne w ↦
          let is : c.zone_offset-next.result.seconds ≡ c.loop-time.offset.seconds = same_number _ _ (not_false _ w.if-ne.ensures) in
          rw (w.rows-is, w.offset-is) (still_reached c.args.zone.now c.zone_offset-first.result c.loop-time.rows.items c.loop-time.offset.seconds (to_z w64 c.loop-time.time-bits) c.stays_until-time-in-loop-time.result
          c.loop-time.invariant later near c.stays_until-time-in-loop-time.ensures.same (sym is ∙ c.zone_offset-next.ensures))
    ])

pub returns-clause-shows : goal.returns-clause-shows
returns-clause-shows c =
    let over = le-false (to_z w64 c.loop-time.time-bits) (pos 2147483647) c.loop-time-test.false in
    subst (ShowsZone c.args.zone.now) (sym c.from_rows.ensures) (all_reached c.args.zone.now c.zone_offset-first.result c.loop-time.rows.items c.loop-time.offset.seconds (to_z w64 c.loop-time.time-bits) c.loop-time.invariant (omega (arith, signed_arith)))
