use Rattle.std.proofs.Common.{◌≡◌, ◌*◌, ◌≤◌, List}
use Rattle.tally_sessions.specs.ConnectSums.{AreCountsOf}
use Rattle.tally_sessions.specs.Sums.{seconds_in}
use Rattle.tally_sessions.specs.declared.entry.Entry.{Entry}
use Rattle.tally_sessions.proofs.connect_sums.CountedHosts.{sum_below}
use Rattle.tally_sessions.proofs.connect_sums.hosts.total_of_counts.Given as goal

abbrev pub invariant-loop-count : goal.invariant-loop-count
invariant-loop-count l = record {
  value : (entries : List Entry) → AreCountsOf l.counts entries → l.seconds ≡ sum_below seconds_in entries l.until l.count-index;
  small : l.seconds ≤ 72057594037927936 * l.count-index;
}
