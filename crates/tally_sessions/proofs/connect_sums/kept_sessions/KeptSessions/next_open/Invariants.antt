use Rattle.std.proofs.Common.{◌≡◌, ◌-◌, length}
use Rattle.tally_sessions.specs.inside.KeptSessions.{ended_ahead, open_ahead}
use Rattle.tally_sessions.proofs.connect_sums.kept_sessions.KeptSessions.next_open.Given as goal

abbrev pub invariant-loop-self : goal.invariant-loop-self
invariant-loop-self l = record {
  ahead : open_ahead l.self ≡ open_ahead l.fn.self;
  rest : ended_ahead l.self ≡ ended_ahead l.fn.self;
}

abbrev pub decreases-loop-self : goal.decreases-loop-self
decreases-loop-self l = length l.self.running.now.slots.items - l.self.slot
