use Rattle.std.proofs.Common.{◌∙◌, All, ℤ, ap, sym, subst, w32}
use Rattle.std.proofs.lemmas.Int.{to_z-of_z}
use Rattle.std.proofs.lemmas.Result.{IfOk-weaker}
use Rattle.tally_records.specs.Choice.{every_login}
use Rattle.tally_sessions.specs.declared.times.DayTime.{DayTime}
use Rattle.tally_sessions.specs.Days.{IsDay, local}
use Rattle.tally_sessions.specs.Sums.{seconds_of_day, sessions_of}
use Rattle.tally_sessions.proofs.connect.DayRows.{day_rows_are, day_rows_days}
use Rattle.tally_sessions.proofs.connect_sums.hosts.connect_by_day_of_counts.Goals as goal

pub returns-clause-value : goal.returns-clause-value
returns-clause-value c =
    let offset = to_z-of_z w32 c.args.offset c.ranges.offset in
    IfOk-weaker c.from_vec.result _ _ (λ rows is es h.
    is
    ∙ c.in_ok-day_rows.ensures.rows
    ∙ day_rows_are (local c.args.clock.now c.args.offset) (sessions_of every_login es c.args.until) c.in_ok-sums.sums.entries c.in_ok-day_rows.ensures.ordered
    (λ day. c.in_ok-sums.ensures.value day es h ∙ ap (λ (z : ℤ). seconds_of_day (local c.args.clock.now z) day (sessions_of every_login es c.args.until)) offset)) c.from_vec.ensures

pub returns-clause-days : goal.returns-clause-days
returns-clause-days c =
    IfOk-weaker c.from_vec.result _ _ (λ rows is. subst (All (λ (r : DayTime). IsDay r.day)) (sym (is ∙ c.in_ok-day_rows.ensures.rows))
    (day_rows_days c.in_ok-sums.sums.entries c.in_ok-day_rows.ensures.ordered c.in_ok-sums.ensures.days)) c.from_vec.ensures
