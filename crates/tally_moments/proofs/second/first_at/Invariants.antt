use Rattle.tally_moments.specs.inside.Reach.{IsNotReached}
use Rattle.tally_moments.proofs.second.first_at.Given as goal

abbrev pub invariant-loop-count : goal.invariant-loop-count
invariant-loop-count l = IsNotReached l.clock l.minutes l.wanted l.count
