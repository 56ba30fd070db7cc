use Rattle.std.proofs.Common.{length, ◌-◌, ◌≤◌, ◌<◌}
use Rattle.tally_sessions.specs.inside.Stored.{count_before}
use Rattle.tally_sessions.proofs.entries.batches.batch_of.Given as goal

abbrev pub invariant-loop-number : goal.invariant-loop-number
invariant-loop-number l = record {
  names : l.number < length l.batches;
  from : count_before l.batches l.number ≤ l.at;
}

abbrev pub decreases-loop-number : goal.decreases-loop-number
decreases-loop-number l = length l.batches - l.number
