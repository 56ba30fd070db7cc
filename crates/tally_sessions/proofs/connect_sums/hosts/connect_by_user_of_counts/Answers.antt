use Rattle.std.proofs.Common.{◌∙◌}
use Rattle.std.proofs.lemmas.Result.{IfOk-weaker}
use Rattle.tally_records.specs.Choice.{every_login}
use Rattle.tally_sessions.specs.Sums.{sessions_of}
use Rattle.tally_sessions.proofs.connect.UserRows.{user_rows_are}
use Rattle.tally_sessions.proofs.connect_sums.hosts.connect_by_user_of_counts.Goals as goal

pub returns : goal.returns
returns c = record {
  value = IfOk-weaker c.from_vec.result _ _ (λ rows is es h.
      is
      ∙ c.in_ok-user_rows.ensures.rows
      ∙ user_rows_are (sessions_of every_login es c.args.until) c.in_ok-sums.sums.entries c.in_ok-user_rows.ensures.ordered (λ user. c.in_ok-sums.ensures.value user es h)) c.from_vec.ensures;
}
