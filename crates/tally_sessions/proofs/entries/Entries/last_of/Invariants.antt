use Rattle.std.proofs.Common.{◌≡◌, ◌≤◌, drop, length}
use Rattle.tally_sessions.specs.Hosts.{of_host}
use Rattle.tally_sessions.specs.Lent.{entries_in}
use Rattle.tally_sessions.proofs.entries.Entries.last_of.Given as goal

abbrev pub invariant-loop-end : goal.invariant-loop-end
invariant-loop-end l = record {
  earlier : l.end ≤ l.before;
  within : l.end ≤ length (entries_in l.self);
  last : of_host l.host (drop l.end (entries_in l.self)) ≡ of_host l.host (drop l.before (entries_in l.self));
}

abbrev pub decreases-loop-end : goal.decreases-loop-end
decreases-loop-end l = l.end
