use Rattle.std.proofs.Common.{◌≡◌, ◌*◌, ◌≤◌, ℕ, List}
use Rattle.std.specs.Cmp.Lexicographic.{slice_cmp}
use Rattle.std.specs.Ordering.{nat_cmp}
use Rattle.tally_sessions.specs.ConnectSums.{AreCountsOf}
use Rattle.tally_sessions.specs.Sums.{seconds_of_user}
use Rattle.tally_sessions.specs.declared.entry.Entry.{Entry}
use Rattle.tally_sessions.specs.inside.Sums.{sum_at}
use Rattle.tally_sessions.proofs.connect_sums.CountedHosts.{sum_below}
use Rattle.tally_sessions.proofs.connect_sums.hosts.user_sums.Given as goal

abbrev pub invariant-loop-count : goal.invariant-loop-count
invariant-loop-count l = record {
  value : (user : List ℕ) (entries : List Entry) → AreCountsOf l.counts entries → sum_at (slice_cmp nat_cmp) l.sums.entries user ≡ sum_below (seconds_of_user user) entries l.until l.count-index;
  small : (user : List ℕ) → sum_at (slice_cmp nat_cmp) l.sums.entries user ≤ 72057594037927936 * l.count-index;
}
