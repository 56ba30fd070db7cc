use Rattle.std.proofs.Common.{◌≡◌, ◌-◌}
use Rattle.tally_sessions.specs.inside.Walk.{ahead_of}
use Rattle.tally_sessions.proofs.connect.walk.WalkSessionSource.next_session.Given as goal

abbrev pub invariant-loop-self : goal.invariant-loop-self
invariant-loop-self l = ahead_of l.fn.self ≡ ahead_of l.self

abbrev pub decreases-loop-self : goal.decreases-loop-self
decreases-loop-self l = 128 - l.self.at.host
