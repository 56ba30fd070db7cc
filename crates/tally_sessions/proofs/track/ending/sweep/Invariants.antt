use Rattle.std.proofs.Common.{◌≡◌}
use Rattle.tally_sessions.specs.inside.Entries.{entry_at}
use Rattle.tally_sessions.specs.inside.Track as spec
use Rattle.tally_sessions.proofs.track.Places.{MapsBelow}
use Rattle.tally_sessions.proofs.track.ending.sweep.Given as goal

abbrev pub invariant-loop-i : goal.invariant-loop-i
invariant-loop-i l = record {
  maps : MapsBelow (spec.after l.entries l.clock (entry_at l.entries l.stored.at).item) spec.no_stay l.fn.stays l.stays l.i;
  sums : spec.HasSums l.entries l.sums l.stays;
  room : l.sums.users.spare ≡ l.fn.sums.users.spare;
}
