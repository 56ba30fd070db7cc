use Rattle.std.proofs.Common.{◌≡◌, ◌++◌, length}
use Rattle.tally_attempts.specs.Attempts.{attempts_before, attempts_of}
use Rattle.tally_attempts.specs.inside.Latest.{IsWithin}
use Rattle.tally_attempts.proofs.latest.push_latest.Given as goal
use Rattle.tally_sessions.specs.Lent.{entries_in}

abbrev pub invariant-loop-limit : goal.invariant-loop-limit
invariant-loop-limit l = record {
  rows : attempts_of l.host l.choice (entries_in l.entries) ≡ l.rows.items ++ attempts_before l.host l.choice l.before (entries_in l.entries);
  few : IsWithin l.limit (length l.rows.items);
}

abbrev pub decreases-loop-limit : goal.decreases-loop-limit
decreases-loop-limit l = l.before
