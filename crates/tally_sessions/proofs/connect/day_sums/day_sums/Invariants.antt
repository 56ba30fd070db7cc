use Rattle.std.proofs.Common.{◌≡◌, ◌+◌, ℤ, pos, ◌-ℤ◌}
use Rattle.std.specs.Ordering.{int_cmp}
use Rattle.tally_sessions.specs.inside.Changes.{day_at}
use Rattle.tally_sessions.specs.Days.{local}
use Rattle.tally_sessions.specs.Sums.{seconds_of_day}
use Rattle.tally_sessions.specs.inside.Sums.{sum_at}
use Rattle.tally_sessions.proofs.connect.Walked.{IsWalked}
use Rattle.tally_sessions.proofs.connect.day_sums.day_sums.Given as goal

abbrev pub invariant-loop-place : goal.invariant-loop-place
invariant-loop-place g l = record {
  seconds : l.seconds ≡ pos (seconds_of_day (local l.clock l.offset) (day_at l.place -ℤ pos 1) (g.S.SessionSource.ahead l.fn.source));
  walked : IsWalked ◌+◌ (λ (d : ℤ). seconds_of_day (local l.clock l.offset) d (g.S.SessionSource.ahead l.fn.source)) (λ (d : ℤ). 0) (sum_at int_cmp l.sums.entries) (day_at l.place);
}
