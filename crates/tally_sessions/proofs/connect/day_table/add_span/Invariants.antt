use Rattle.std.proofs.Common.{ℕ, pos, ◌+ℤ◌}
use Rattle.tally_sessions.specs.inside.Spans.{span_on}
use Rattle.tally_sessions.proofs.connect.Cells.{IsAdded}
use Rattle.tally_sessions.proofs.connect.day_table.add_span.Given as goal

abbrev pub invariant-loop-place : goal.invariant-loop-place
invariant-loop-place l = IsAdded (λ (p : ℕ). span_on (l.column.first +ℤ pos p) l.span.begin l.span.end_time) l.column.width l.column.rank l.fn.cells l.cells l.place
