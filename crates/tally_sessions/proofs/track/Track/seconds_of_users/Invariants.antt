use Rattle.std.proofs.Common.{◌≡◌, ◌*◌, ◌≤◌, length, take}
use Rattle.tally_sessions.specs.Hosts.{of_host}
use Rattle.tally_sessions.specs.Lent.{entries_in}
use Rattle.tally_sessions.specs.Totals.{stays_of}
use Rattle.tally_sessions.specs.inside.NamedUsers.{seconds_of_names}
use Rattle.tally_sessions.proofs.track.Track.seconds_of_users.Given as goal

abbrev pub invariant-loop-place : goal.invariant-loop-place
invariant-loop-place l = record {
  told : l.total ≡ seconds_of_names (take l.place l.users) (stays_of l.host (entries_in l.entries) l.until);
  fits : l.total ≤ 4294967295 * length (of_host l.host (entries_in l.entries));
}
