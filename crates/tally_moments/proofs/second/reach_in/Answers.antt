use Rattle.std.proofs.Common.{arith}
use Rattle.std.proofs.lemmas.Int.{clamps, ints}
use Rattle.tally_moments.proofs.Reaching.{reach_is}
use Rattle.tally_moments.proofs.second.reach_in.Goals as goal

pub returns-else-count-eq0-clause-value : goal.returns-else-count-eq0-clause-value
returns-else-count-eq0-clause-value c =
    reach_is c.args.clock.now c.args.minutes c.args.wanted c.args.count c.ahead_after.result c.row_begin.result c.max.result c.ranges.minutes c.requires.wanted c.if-count-eq0.false
    c.ahead_after.ensures.value c.ahead_after.ensures.near c.row_begin.ensures.value c.row_begin.ensures.near c.max.ensures.value

pub returns-else-count-eq0-clause-near : goal.returns-else-count-eq0-clause-near
returns-else-count-eq0-clause-near c =
    let near = c.requires.wanted in
    let ahead = c.ahead_after.ensures.near in
    let begin = c.row_begin.ensures.near in
    let is = c.max.ensures.value in
    (omega (arith, ints, clamps, near, ahead, begin, is), omega (arith, ints, clamps, near, ahead, begin, is))
