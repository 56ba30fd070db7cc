use Rattle.std.proofs.Common.{length}
use Rattle.tally_sessions.specs.Days.{local}
use Rattle.tally_sessions.specs.declared.connect.keys.DayUser.{DayUser}
use Rattle.tally_sessions.specs.inside.Changes.{rows_ahead, told_of}
use Rattle.tally_sessions.proofs.connect.UserRowWalk.{IsLeft}
use Rattle.tally_sessions.proofs.connect.day_user_rows.add_rows.Given as goal

abbrev pub decreases-loop-at : goal.decreases-loop-at
decreases-loop-at l = rows_ahead (length l.clock.rows) l.counts.entries

abbrev pub invariant-loop-at : goal.invariant-loop-at
invariant-loop-at l = IsLeft (local l.clock l.offset) l.clock.rows (λ (k : DayUser). told_of (local l.clock l.offset) l.clock.rows l.fn.changes.entries l.fn.counts.entries k) l.changes.entries l.counts.entries
