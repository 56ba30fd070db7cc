use Rattle.std.proofs.Common.{◌≡◌, ◌*◌, ◌≤◌, ℕ, List, map, sum}
use Rattle.std.specs.Cmp.Lexicographic.{slice_cmp}
use Rattle.std.specs.List.{range_with_len}
use Rattle.std.specs.Ordering.{nat_cmp}
use Rattle.tally_sessions.specs.Lent.{entries_in}
use Rattle.tally_sessions.specs.inside.Sums.{sum_at}
use Rattle.tally_sessions.specs.Sums.{seconds_in, seconds_of_user, sessions_among}
use Rattle.tally_sessions.specs.Totals.{stays_of}
use Rattle.tally_sessions.proofs.sessions.HostCounts.{count_below}
use Rattle.tally_sessions.proofs.sessions.Sessions.chosen_user_sums.Given as goal

abbrev pub invariant-loop-host : goal.invariant-loop-host
invariant-loop-host l = record {
  told : (user : List ℕ) → sum_at (slice_cmp nat_cmp) l.sums.entries user ≡ sum (map (λ host. seconds_of_user user (sessions_among l.choice (stays_of host (entries_in l.entries) l.until))) (range_with_len 0 l.host));
  fits : (user : List ℕ) → sum_at (slice_cmp nat_cmp) l.sums.entries user ≤ 4294967295 * count_below l.host (entries_in l.entries);
  all : sum (map (λ host. seconds_in (sessions_among l.choice (stays_of host (entries_in l.entries) l.until))) (range_with_len 0 l.host)) ≤ 4294967295 * count_below l.host (entries_in l.entries);
}
