use Rattle.std.proofs.Common.{◌≡◌, ◌*◌, ◌≤◌, take}
use Rattle.tally_sessions.specs.Lent.{entries_in}
use Rattle.tally_sessions.specs.Sums.{seconds_in, sessions_among}
use Rattle.tally_sessions.specs.Totals.{stays_of}
use Rattle.tally_sessions.proofs.track.Track.walked_seconds.Given as goal

abbrev pub invariant-loop-i : goal.invariant-loop-i
invariant-loop-i l = record {
  told : l.total ≡ seconds_in (sessions_among l.choice (take l.i (stays_of l.host (entries_in l.entries) l.until)));
  fits : l.total ≤ 4294967295 * l.i;
}
