use Rattle.std.proofs.Common.{◌∙◌}
use Rattle.std.proofs.lemmas.Int.{to_z-of_z}
use Rattle.std.proofs.lemmas.Result.{IfOk-weaker}
use Rattle.std.specs.Int.{w32}
use Rattle.tally_records.specs.Choice.{every_login}
use Rattle.tally_sessions.specs.Days.{local}
use Rattle.tally_sessions.specs.Rows.{day_user_times}
use Rattle.tally_sessions.specs.Sums.{sessions_of}
use Rattle.tally_sessions.specs.inside.KeptSessions.{chained_ahead, sessions_ahead}
use Rattle.tally_sessions.proofs.connect.AlikeRows.{alike_day_users}
use Rattle.tally_sessions.proofs.connect_sums.WalkLemmas.{some-weaker}
use Rattle.tally_sessions.proofs.connect_sums.day_users.rows_by_table.Goals as goal

pub returns-clause-rows : goal.returns-clause-rows
returns-clause-rows c =
    let ahead = chained_ahead sessions_ahead c.in_ok-sessions.sessions in
    let offset = to_z-of_z w32 c.args.offset c.ranges.offset in
    IfOk-weaker c.rows_from_table.result _ _ (λ found. some-weaker found _ _ (λ rows is es h.
    is
    ∙ (λ i. day_user_times (local c.args.clock.now (offset i)) ahead)
    ∙ alike_day_users (local c.args.clock.now c.args.offset) ahead (sessions_of every_login es c.args.until) (c.in_ok-sessions.ensures.value es h))) c.rows_from_table.ensures.rows
