use Rattle.tally_sessions.specs.declared.connect.keys.DayUser.{DayUser}
use Rattle.tally_sessions.specs.inside.Changes.{days_ahead}
use Rattle.tally_sessions.specs.Days.{local}
use Rattle.tally_sessions.specs.Sums.{seconds_of_day_user}
use Rattle.tally_sessions.proofs.connect.RowSteps.{IsWalk}
use Rattle.tally_sessions.proofs.connect.day_user_rows.day_user_rows.Given as goal

abbrev pub decreases-loop-at : goal.decreases-loop-at
decreases-loop-at g l = days_ahead l.changes.entries

abbrev pub invariant-loop-at : goal.invariant-loop-at
invariant-loop-at g l = IsWalk (λ (k : DayUser). seconds_of_day_user (local l.clock l.offset) k.day k.user (g.S.SessionSource.ahead l.fn.source)) l.rows.items l.changes.entries
