use Rattle.std.proofs.Common.{ℕ, ℤ, List, pos, ◌+ℤ◌, ◌-ℤ◌, ◌*ℤ◌, ◌≤ℤ◌, cond}
use Rattle.std.specs.Int.{int_max}
use Rattle.std.specs.Prelude.{bytes_eq, unsigned_abs}
use Rattle.tally_sessions.specs.inside.Changes.{day_change}
use Rattle.tally_sessions.specs.inside.Spans.{span_change}
use Rattle.tally_sessions.proofs.connect.Walked.{IsWalked}
use Rattle.tally_sessions.proofs.connect.day_user_rows.add_changes.Given as goal

abbrev pub decreases-loop-day : goal.decreases-loop-day
decreases-loop-day l = unsigned_abs (int_max (pos 24859 -ℤ l.day) (pos 0))

abbrev pub invariant-loop-day : goal.invariant-loop-day
invariant-loop-day l = record {
  from : l.first ≤ℤ l.day;
  moved : (name : List ℕ) → IsWalked ◌+ℤ◌ (λ (d : ℤ). cond (bytes_eq l.user name) (l.times *ℤ span_change d l.span.begin l.span.end_time) (pos 0))
      (λ d. day_change l.fn.changes.entries (record { day = d; user = name })) (λ d. day_change l.changes.entries (record { day = d; user = name })) l.day;
}
