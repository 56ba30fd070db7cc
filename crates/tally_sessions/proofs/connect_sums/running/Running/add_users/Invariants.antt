use Rattle.std.proofs.Common.{◌≡◌, ◌+◌, ◌*◌, ◌≤◌, ℕ, List, Some, take}
use Rattle.std.specs.Cmp.Lexicographic.{slice_cmp}
use Rattle.std.specs.Ordering.{nat_cmp}
use Rattle.tally_sessions.specs.Opens.{seconds_at}
use Rattle.tally_sessions.specs.inside.Slots.{open_count, weight_in}
use Rattle.tally_sessions.specs.inside.Sums.{sum_at}
use Rattle.tally_sessions.specs.inside.Track.{sum_of}
use Rattle.tally_sessions.proofs.connect_sums.running.Running.add_users.Given as goal

abbrev pub invariant-loop-k : goal.invariant-loop-k
invariant-loop-k l = record {
  value : (user : List ℕ) → sum_at (slice_cmp nat_cmp) l.sums.entries user
      ≡ (sum_at (slice_cmp nat_cmp) l.fn.sums.entries user + sum_of l.self.ended.sums (Some user))
      + weight_in (seconds_at (Some user) l.self.clock l.time) (take l.k l.self.slots.items);
  small : (user : List ℕ) → sum_at (slice_cmp nat_cmp) l.sums.entries user
      ≤ (sum_at (slice_cmp nat_cmp) l.fn.sums.entries user + sum_of l.self.ended.sums (Some user)) + 4294967295 * open_count (take l.k l.self.slots.items);
}
