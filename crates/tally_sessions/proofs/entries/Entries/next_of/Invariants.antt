use Rattle.std.proofs.Common.{◌≡◌, ◌≤◌, ◌-◌, length, take}
use Rattle.tally_sessions.specs.Hosts.{of_host}
use Rattle.tally_sessions.specs.Lent.{entries_in}
use Rattle.tally_sessions.proofs.entries.Entries.next_of.Given as goal

abbrev pub invariant-loop-at : goal.invariant-loop-at
invariant-loop-at l = record {
  later : l.from ≤ l.at;
  first : of_host l.host (take l.at (entries_in l.self)) ≡ of_host l.host (take l.from (entries_in l.self));
}

abbrev pub decreases-loop-at : goal.decreases-loop-at
decreases-loop-at l = length (entries_in l.self) - l.at
