use Rattle.std.proofs.Common.{◌+◌, ◌*◌}
use Rattle.tally_sessions.proofs.sessions.of_entries.+parts.Given as goal

abbrev pub decreases-tracks_by : goal.decreases-tracks_by
decreases-tracks_by g l = 2 * l.count

abbrev pub decreases-after : goal.decreases-after
decreases-after g l = 2 * l.left + 1
