use Rattle.std.proofs.Common.{◌≤◌, ◌-◌, length}
use Rattle.tally_sessions.specs.inside.Kept.{AreTracksFrom}
use Rattle.tally_sessions.proofs.sessions.of_entries.tracks_of.Given as goal

abbrev pub invariant-loop-at : goal.invariant-loop-at
invariant-loop-at l = record {
  within : l.at ≤ length l.entries;
  tracks : AreTracksFrom l.first l.count l.entries l.at l.tracks.items;
}

abbrev pub decreases-loop-at : goal.decreases-loop-at
decreases-loop-at l = length l.entries - l.at
