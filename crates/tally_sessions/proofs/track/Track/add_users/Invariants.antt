use Rattle.std.proofs.Common.{◌≡◌, ◌+◌, ◌*◌, ◌≤◌, ℕ, List, length, take}
use Rattle.std.specs.Cmp.Lexicographic.{slice_cmp}
use Rattle.std.specs.Ordering.{nat_cmp}
use Rattle.tally_sessions.specs.Hosts.{of_host}
use Rattle.tally_sessions.specs.Lent.{entries_in}
use Rattle.tally_sessions.specs.Totals.{stays_of}
use Rattle.tally_sessions.specs.inside.NamedUsers.{own_seconds, seconds_of_names}
use Rattle.tally_sessions.specs.inside.Sums.{sum_at}
use Rattle.tally_sessions.proofs.track.Track.add_users.Given as goal

abbrev pub invariant-loop-place : goal.invariant-loop-place
invariant-loop-place l = record {
  told : (user : List ℕ) → sum_at (slice_cmp nat_cmp) l.sums.entries user ≡ sum_at (slice_cmp nat_cmp) l.fn.sums.entries user + own_seconds user (take l.place l.users) (stays_of l.host (entries_in l.entries) l.until);
  fits : (user : List ℕ) → own_seconds user (take l.place l.users) (stays_of l.host (entries_in l.entries) l.until) ≤ 4294967295 * length (of_host l.host (entries_in l.entries));
  all : seconds_of_names (take l.place l.users) (stays_of l.host (entries_in l.entries) l.until) ≤ 4294967295 * length (of_host l.host (entries_in l.entries));
}
