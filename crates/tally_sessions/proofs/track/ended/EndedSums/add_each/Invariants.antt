use Rattle.std.proofs.Common.{◌≡◌, ◌+◌, ℕ, List, take}
use Rattle.std.specs.Cmp.Lexicographic.{slice_cmp}
use Rattle.std.specs.List.{zip}
use Rattle.std.specs.Map.{keys_of}
use Rattle.std.specs.Ordering.{nat_cmp}
use Rattle.std.specs.Prelude.{sum_by}
use Rattle.tally_sessions.specs.inside.Chosen.{number_of}
use Rattle.tally_sessions.specs.inside.Sums.{sum_at}
use Rattle.tally_sessions.proofs.track.ended.EndedSums.add_each.Given as goal

abbrev pub invariant-loop-place : goal.invariant-loop-place
invariant-loop-place l =
    (user : List ℕ) → sum_at (slice_cmp nat_cmp) l.sums.entries user
    ≡ sum_at (slice_cmp nat_cmp) l.fn.sums.entries user + sum_by (number_of user) (take l.place (zip (keys_of l.self.users.entries) l.numbers))
