use Rattle.std.proofs.Common.{◌∙◌, ℤ, List, All, ap, sym, subst, rules, w32}
use Rattle.std.proofs.lemmas.Int.{to_z-of_z}
use Rattle.std.proofs.lemmas.Result.{IfOk-weaker}
use Rattle.tally_sessions.specs.declared.entry.Entry.{Entry}
use Rattle.tally_sessions.specs.declared.times.DayUserTime.{DayUserTime}
use Rattle.tally_sessions.specs.Rows.{day_user_times}
use Rattle.tally_sessions.specs.Days.{IsDay, local}
use Rattle.tally_sessions.specs.Sums.{sessions_of}
use Rattle.tally_sessions.proofs.sessions.Sessions.connect_by_day_user.Goals as goal

pub returns-clause-value : goal.returns-clause-value
returns-clause-value c =
    let es : List Entry = c.args.self.now.entries in
    let offset = to_z-of_z w32 c.args.offset (search rules) in
    IfOk-weaker c.from_vec.result _ _ (λ rows is. is ∙ c.in_ok-rows_by_day_user.ensures.rows ∙ ap (λ (z : ℤ). day_user_times (local c.args.clock.now z) (sessions_of c.args.choice.now es c.args.until)) offset) c.from_vec.ensures

pub returns-clause-days : goal.returns-clause-days
returns-clause-days c =
    IfOk-weaker c.from_vec.result _ _ (λ rows is. subst (All (λ (r : DayUserTime). IsDay r.day)) (sym is) c.in_ok-rows_by_day_user.ensures.days) c.from_vec.ensures
