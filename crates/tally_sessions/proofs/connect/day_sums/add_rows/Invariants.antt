use Rattle.tally_sessions.proofs.connect.RowWalk.{IsRowWalk}
use Rattle.tally_sessions.specs.Days.{local}
use Rattle.tally_sessions.proofs.connect.day_sums.add_rows.Given as goal

abbrev pub invariant-loop-row : goal.invariant-loop-row
invariant-loop-row l = IsRowWalk (local l.clock l.offset) l.clock.rows l.counts l.fn.table l.table l.times l.row
