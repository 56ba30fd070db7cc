use Rattle.std.proofs.Common.{◌≡◌, ◌-◌, length}
use Rattle.tally_sessions.specs.inside.KeptSessions.{chained_ahead}
use Rattle.tally_sessions.proofs.connect_sums.kept_walk.ChainedSessionsSessionSource.next_session.Given as goal

abbrev pub invariant-loop-self : goal.invariant-loop-self
invariant-loop-self g l = chained_ahead g.S.SessionSource.ahead l.self ≡ chained_ahead g.S.SessionSource.ahead l.fn.self

abbrev pub decreases-loop-self : goal.decreases-loop-self
decreases-loop-self g l = length l.self.sources.items - l.self.at
