use Rattle.std.proofs.Common.{◌∙◌, List, ap, arith}
use Rattle.std.proofs.lemmas.Result.{IfOk-weaker}
use Rattle.std.specs.Prelude.{sum_by}
use Rattle.tally_sessions.specs.declared.entry.Entry.{Entry}
use Rattle.tally_sessions.specs.declared.times.UserTime.{UserTime}
use Rattle.tally_sessions.specs.Sums.{sessions_of}
use Rattle.tally_sessions.proofs.connect.RowTotals.{user_rows_add_up}
use Rattle.tally_sessions.proofs.connect.UserRows.{user_rows_are}
use Rattle.tally_sessions.proofs.sessions.Sessions.connect_by_user.Goals as goal

pub returns-clause-value : goal.returns-clause-value
returns-clause-value c =
    let es : List Entry = c.args.self.now.entries in
    IfOk-weaker c.from_vec.result _ _ (λ rows is. is ∙ c.in_ok-user_rows.ensures.rows
    ∙ user_rows_are (sessions_of c.args.choice.now es c.args.until) c.in_ok-sums.sums.entries c.in_ok-user_rows.ensures.ordered c.in_ok-sums.ensures.value) c.from_vec.ensures

pub returns-clause-each : goal.returns-clause-each
returns-clause-each c =
    IfOk-weaker c.from_vec.result _ _ (λ rows is. omega (
      arith,
      ap (sum_by (λ (row : UserTime). row.seconds)) is,
      user_rows_add_up (sessions_of c.args.choice.now c.args.self.now.entries c.args.until),
      c.in_ok-sums.ensures.each,
    )) (returns-clause-value c)

pub returns-clause-fits : goal.returns-clause-fits
returns-clause-fits c =
    IfOk-weaker c.from_vec.result _ _ (λ rows is. omega (
      arith,
      ap (sum_by (λ (row : UserTime). row.seconds)) is,
      user_rows_add_up (sessions_of c.args.choice.now c.args.self.now.entries c.args.until),
      c.in_ok-sums.ensures.fits,
    )) (returns-clause-value c)
