use Rattle.std.proofs.Common.{ℕ, ◌+◌, ◌-◌, ◌≤◌}
use Rattle.tally_sessions.specs.inside.Track.{HasRoom, IsTrack}
use Rattle.tally_sessions.proofs.track.Track.advance_batch.Given as goal

abbrev pub invariant-loop-i : goal.invariant-loop-i
invariant-loop-i l = record {
  tracks : IsTrack l.host l.entries l.i l.self;
  swept : l.fn.self.swept ≤ l.self.swept;
  room : HasRoom (l.to - l.i) l.self;
  room_left : (k : ℕ) → HasRoom (l.to - l.from + k) l.fn.self → HasRoom (l.to - l.i + k) l.self;
}
