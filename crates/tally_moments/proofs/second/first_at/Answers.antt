use Rattle.std.proofs.Common.{◌≡◌, ◌<◌, ◌+◌, ap, arith, length, subst, sym, to_z-of_z}
use borrow.Author.Differences.{lt-true, lt-false}
use Rattle.jiff_core.proofs.SignedLemmas.{signed_arith}
use Rattle.tally_moments.specs.Seconds.{IsFirstAt, local}
use Rattle.tally_moments.specs.inside.Reach.{IsNotReached}
use Rattle.tally_moments.proofs.Reaching.{held, is_first, kept, not_in, not_reached, still_not_reached, worked_out}
use Rattle.tally_moments.proofs.second.first_at.Goals as goal

pub returns-then-time-row_begin-clause-first : goal.returns-then-time-row_begin-clause-first
returns-then-time-row_begin-clause-first c =
    let m : held c.args.minutes ≡ c.args.minutes = to_z-of_z c.ranges.minutes in
    let w : kept c.args.wanted ≡ c.args.wanted = to_z-of_z c.ranges.wanted in
    let is = worked_out c.args.clock.now c.args.minutes c.args.wanted c.loop-count.count c.reach_in-time.result m w c.reach_in-time.ensures.near c.reach_in-time.ensures.value in
    let before = lt-true (kept c.reach_in-time.result) (kept c.row_begin.result) c.if-time-row_begin.true in
    let begin = c.row_begin.ensures.value in
    let near = c.row_begin.ensures.near in
    let so_far = not_reached c.args.clock.now c.args.minutes c.args.wanted c.loop-count.count m w c.loop-count.invariant in
    let fits : c.loop-count.count < length c.args.clock.now.rows = rw (sym c.rows-rows.ensures.value) c.loop-count-test.true in
    subst (IsFirstAt (local c.args.clock.now c.args.minutes) c.args.wanted) (sym is)
    (is_first c.args.clock.now c.rows-rows.ensures.rising c.args.minutes c.args.wanted c.loop-count.count (omega arith) so_far
    (λ l. omega (arith, signed_arith, is, before, begin, near)))

pub loop-count-preserved : goal.loop-count-preserved
loop-count-preserved c =
    let m : held c.args.minutes ≡ c.args.minutes = to_z-of_z c.ranges.minutes in
    let w : kept c.args.wanted ≡ c.args.wanted = to_z-of_z c.ranges.wanted in
    let is = worked_out c.args.clock.now c.args.minutes c.args.wanted c.loop-count.count c.reach_in-time.result m w c.reach_in-time.ensures.near c.reach_in-time.ensures.value in
    let over = lt-false (kept c.reach_in-time.result) (kept c.row_begin.result) c.if-time-row_begin.false in
    let begin = c.row_begin.ensures.value in
    let near = c.row_begin.ensures.near in
    let so_far = not_reached c.args.clock.now c.args.minutes c.args.wanted c.loop-count.count m w c.loop-count.invariant in
    let fits : c.loop-count.count < length c.args.clock.now.rows = rw (sym c.rows-rows.ensures.value) c.loop-count-test.true in
    still_not_reached c.args.clock.now c.args.minutes c.args.wanted (c.loop-count.count + 1) m w
    (not_in c.args.clock.now c.rows-rows.ensures.rising c.args.minutes c.args.wanted c.loop-count.count fits so_far (omega (arith, signed_arith, is, over, begin, near)))

pub returns-clause-first : goal.returns-clause-first
returns-clause-first c =
    let m : held c.args.minutes ≡ c.args.minutes = to_z-of_z c.ranges.minutes in
    let w : kept c.args.wanted ≡ c.args.wanted = to_z-of_z c.ranges.wanted in
    let is = worked_out c.args.clock.now c.args.minutes c.args.wanted (length c.rows-rows.result.now) c.reach_in.result m w c.reach_in.ensures.near c.reach_in.ensures.value in
    let all : c.loop-count.count ≡ length c.rows-rows.result.now = omega arith in
    let so_far = subst (IsNotReached c.args.clock.now c.args.minutes c.args.wanted) all (not_reached c.args.clock.now c.args.minutes c.args.wanted c.loop-count.count m w c.loop-count.invariant) in
    let ends : length c.rows-rows.result.now ≡ length c.args.clock.now.rows = ap length c.rows-rows.ensures.value in
    subst (IsFirstAt (local c.args.clock.now c.args.minutes) c.args.wanted) (sym is)
    (is_first c.args.clock.now c.rows-rows.ensures.rising c.args.minutes c.args.wanted (length c.rows-rows.result.now) (omega (arith, ends)) so_far
    (λ l. absurd (omega (arith, ends))))
