use Rattle.std.proofs.Common.{◌≡◌, ◌∙◌, ℤ, List, All, ap, sym, subst, rules, to_z, of_z, w32}
use Rattle.std.proofs.lemmas.Int.{to_z-of_z}
use Rattle.std.proofs.lemmas.Result.{IfOk-weaker}
use Rattle.std.specs.Ordering.{int_cmp}
use Rattle.tally_sessions.specs.declared.sums.Session.{Session}
use Rattle.tally_sessions.specs.declared.times.DayTime.{DayTime}
use Rattle.tally_sessions.specs.Days.{IsDay, local}
use Rattle.tally_sessions.specs.Sums.{seconds_of_day, sessions_of}
use Rattle.tally_sessions.specs.inside.Sums.{sum_at}
use Rattle.tally_sessions.proofs.connect.DayRows.{day_rows_are, day_rows_days}
use Rattle.tally_sessions.proofs.sessions.Sessions.connect_by_day.Goals as goal

pub returns-clause-value : goal.returns-clause-value
returns-clause-value c =
    let all = sessions_of c.args.choice.now c.args.self.now.entries c.args.until in
    let offset = to_z-of_z w32 c.args.offset (search rules) in
    IfOk-weaker c.from_vec.result _ _ (λ rows is. is ∙ c.in_ok-day_rows.ensures.rows
    ∙ day_rows_are (local c.args.clock.now c.args.offset) all c.in_ok-sums.sums.entries c.in_ok-day_rows.ensures.ordered
    (λ day. subst (λ (ss : List Session). sum_at int_cmp c.in_ok-sums.sums.entries day ≡ seconds_of_day (local c.args.clock.now (to_z w32 (of_z w32 c.args.offset))) day ss) c.walk-walk.ensures.ahead (c.in_ok-sums.ensures.value day)
    ∙ ap (λ (z : ℤ). seconds_of_day (local c.args.clock.now z) day all) offset)) c.from_vec.ensures

pub returns-clause-days : goal.returns-clause-days
returns-clause-days c =
    IfOk-weaker c.from_vec.result _ _ (λ rows is. subst (All (λ (r : DayTime). IsDay r.day)) (sym (is ∙ c.in_ok-day_rows.ensures.rows))
    (day_rows_days c.in_ok-sums.sums.entries c.in_ok-day_rows.ensures.ordered c.in_ok-sums.ensures.days)) c.from_vec.ensures
