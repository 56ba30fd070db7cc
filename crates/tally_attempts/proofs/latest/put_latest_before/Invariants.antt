use Rattle.std.proofs.Common.{◌≡◌, ◌≤◌}
use Rattle.tally_attempts.specs.Attempts.{attempts_before}
use Rattle.tally_attempts.proofs.latest.put_latest_before.Given as goal
use Rattle.tally_sessions.specs.Lent.{entries_in}

abbrev pub invariant-loop-at : goal.invariant-loop-at
invariant-loop-at l = record {
  earlier : l.end ≤ l.before;
  same : attempts_before l.host l.choice l.before (entries_in l.entries) ≡ attempts_before l.host l.choice l.end (entries_in l.entries);
}

abbrev pub decreases-loop-at : goal.decreases-loop-at
decreases-loop-at l = l.end
