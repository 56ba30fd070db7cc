use Rattle.std.proofs.Common.{length}
use Rattle.tally_sessions.specs.Days.{local}
use Rattle.tally_sessions.proofs.connect.CellTable.{HasSecondsBut}
use Rattle.tally_sessions.proofs.connect.day_table_sums.add_all.Given as goal

abbrev pub invariant-loop-session : goal.invariant-loop-session
invariant-loop-session g l = HasSecondsBut (local l.clock l.offset) l.first l.users l.cells (g.S.SessionSource.ahead l.fn.source) (g.S.SessionSource.ahead l.source)

abbrev pub decreases-loop-session : goal.decreases-loop-session
decreases-loop-session g l = length (g.S.SessionSource.ahead l.source)
