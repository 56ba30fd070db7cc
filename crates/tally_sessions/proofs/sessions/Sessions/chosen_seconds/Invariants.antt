use Rattle.std.proofs.Common.{◌≡◌, ◌*◌, ◌≤◌, map, sum}
use Rattle.std.specs.List.{range_with_len}
use Rattle.tally_sessions.specs.Lent.{entries_in}
use Rattle.tally_sessions.specs.Sums.{seconds_in, sessions_among}
use Rattle.tally_sessions.specs.Totals.{stays_of}
use Rattle.tally_sessions.proofs.sessions.HostCounts.{count_below}
use Rattle.tally_sessions.proofs.sessions.Sessions.chosen_seconds.Given as goal

abbrev pub invariant-loop-host : goal.invariant-loop-host
invariant-loop-host l = record {
  told : l.total ≡ sum (map (λ host. seconds_in (sessions_among l.choice (stays_of host (entries_in l.entries) l.until))) (range_with_len 0 l.host));
  fits : l.total ≤ 4294967295 * count_below l.host (entries_in l.entries);
}
