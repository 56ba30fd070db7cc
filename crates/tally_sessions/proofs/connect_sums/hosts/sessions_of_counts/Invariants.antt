use Rattle.std.proofs.Common.{◌≡◌, ◌≤◌, ℕ, List, length, sum_by, take}
use Rattle.std.specs.List.{flat_map}
use Rattle.tally_sessions.specs.ConnectSums.{AreCountsOf}
use Rattle.tally_sessions.specs.declared.entry.Entry.{Entry}
use Rattle.tally_sessions.specs.declared.sums.Session.{Session}
use Rattle.tally_sessions.specs.inside.KeptSessions.{sessions_ahead}
use Rattle.tally_sessions.proofs.connect_sums.CountedHosts.{sum_below}
use Rattle.tally_sessions.proofs.connect_sums.hosts.sessions_of_counts.Given as goal

abbrev pub invariant-loop-count : goal.invariant-loop-count
invariant-loop-count l = record {
  value : (entries : List Entry) → AreCountsOf l.counts entries → (weight : Session → ℕ)
      → sum_by weight (flat_map sessions_ahead l.sources.items) ≡ sum_below (sum_by weight) entries l.until l.count-index;
  few : length (flat_map sessions_ahead l.sources.items) ≤ sum_by (λ c. c.count) (take l.count-index l.counts);
  length_is : length l.sources.items ≡ l.count-index;
}
