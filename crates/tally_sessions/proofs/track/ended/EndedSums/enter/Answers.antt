use Rattle.std.proofs.Common.{None, Some, refl}
use Rattle.tally_sessions.proofs.track.ended.EndedSums.enter.Goals as goal

pub returns-clause-sums : goal.returns-clause-sums
returns-clause-sums c None = refl
returns-clause-sums c (Some name) = c.enter.ensures.sums name
