use Rattle.std.proofs.Common.{length}
use Rattle.tally_sessions.specs.Days.{local}
use Rattle.tally_sessions.proofs.connect.UserTable.{HasUsersBut}
use Rattle.tally_sessions.proofs.connect.day_user_rows.user_changes.Given as goal

abbrev pub invariant-loop-session : goal.invariant-loop-session
invariant-loop-session g l = HasUsersBut (local l.clock l.offset) l.clock.rows (g.S.SessionSource.ahead l.fn.source) (g.S.SessionSource.ahead l.source) l.changes.entries l.counts.entries

abbrev pub decreases-loop-session : goal.decreases-loop-session
decreases-loop-session g l = length (g.S.SessionSource.ahead l.source)
