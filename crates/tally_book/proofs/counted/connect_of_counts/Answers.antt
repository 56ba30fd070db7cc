use Rattle.std.proofs.Common.{◌≡◌, ◌∙◌, ℤ, Bool, FitsSigned, true, false, List, Option, map, refl, sym, ap, to_z-of_z, w32}
use Rattle.tally_answers.specs.declared.question.Answer.TheVariants as answers
use Rattle.tally_answers.specs.Answers.{answer_of, connect_rows, row_of_day, row_of_day_user, row_of_user}
use Rattle.tally_records.specs.Choice.{every_login}
use Rattle.tally_records.specs.declared.choice.LoginChoice.{LoginChoice}
use Rattle.tally_sessions.specs.Days.{local}
use Rattle.tally_sessions.specs.Rows.{day_times, day_user_times, user_times}
use Rattle.tally_sessions.specs.Sums.{seconds_in, sessions_of}
use Rattle.tally_sessions.specs.declared.entry.Entry.{Entry}
use Rattle.tally_book.proofs.counted.connect_of_counts.Goals as goal

-- the same sessions have the same rows
rows_alike : (by_day by_user : Bool) (clock : ℤ → ℤ) (choice : LoginChoice) (logins : List Entry) (until : Option ℤ) → sessions_of choice logins until ≡ sessions_of every_login logins until
    → connect_rows by_day by_user clock every_login logins until ≡ connect_rows by_day by_user clock choice logins until
rows_alike false false clock choice logins until same = refl
rows_alike false true clock choice logins until same = ap (λ ss. map row_of_user (user_times ss)) (sym same)
rows_alike true false clock choice logins until same = ap (λ ss. map row_of_day (day_times clock ss)) (sym same)
rows_alike true true clock choice logins until same = ap (λ ss. map row_of_day_user (day_user_times clock ss)) (sym same)

pub returns-clause-value : goal.returns-clause-value
unfolding answer_of
returns-clause-value c choice logins procs every h =
    let same = (c.every_session_is_chosen.ensures logins c.args.until).alike choice every in
    let minutes : FitsSigned w32 c.args.offset = c.ranges.offset in
    let own = ap (λ (x : ℤ). connect_rows c.args.by_day c.args.by_user (local c.args.clock.now x) every_login logins c.args.until) (to_z-of_z minutes) in
    let rows = c.in_ok-rows.ensures.value logins h ∙ own ∙ rows_alike c.args.by_day c.args.by_user (local c.args.clock.now c.args.offset) choice logins c.args.until same in
    let total = c.total_of_counts-total.ensures.value logins h ∙ ap seconds_in (sym same) in
    λ i. answers.Connect (rows i) (total i)
