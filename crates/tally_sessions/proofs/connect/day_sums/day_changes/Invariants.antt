use Rattle.std.proofs.Common.{length}
use Rattle.tally_sessions.specs.Days.{local}
use Rattle.tally_sessions.proofs.connect.DayTable.{HasAllBut}
use Rattle.tally_sessions.proofs.connect.day_sums.day_changes.Given as goal

abbrev pub invariant-loop-session : goal.invariant-loop-session
invariant-loop-session g l = HasAllBut (local l.clock l.offset) l.clock.rows (g.S.SessionSource.ahead l.fn.source) (g.S.SessionSource.ahead l.source) l.table.items l.counts.items

abbrev pub decreases-loop-session : goal.decreases-loop-session
decreases-loop-session g l = length (g.S.SessionSource.ahead l.source)
