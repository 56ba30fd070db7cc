use Rattle.std.proofs.Common.{◌≡◌, ◌+◌, ℕ, List, Some, take, unwrap_or}
use Rattle.std.specs.Cmp.Lexicographic.{slice_cmp}
use Rattle.std.specs.Ordering.{nat_cmp}
use Rattle.std.specs.Prelude.{sum_by}
use Rattle.tally_sessions.specs.Lent.{entries_in}
use Rattle.tally_sessions.specs.inside.Sums.{sum_at}
use Rattle.tally_sessions.specs.inside.Track.{sum_of}
use Rattle.tally_sessions.proofs.track.PendingSums.{pending_at}
use Rattle.tally_sessions.proofs.track.Track.add_seconds.Given as goal

abbrev pub invariant-loop-k : goal.invariant-loop-k
invariant-loop-k l =
    (user : List ℕ) → sum_at (slice_cmp nat_cmp) l.sums.entries user
    ≡ (sum_at (slice_cmp nat_cmp) l.fn.sums.entries user + sum_of l.self.sums (Some user))
    + sum_by (pending_at (Some user) (entries_in l.entries) l.self.clock (unwrap_or l.fn.until l.self.last) l.self.stays.items) (take l.k l.self.lines.entries)
