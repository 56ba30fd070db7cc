use Rattle.std.proofs.Common.{◌∙◌, [], arith}
use Rattle.std.proofs.lemmas.Result.{IfOk-weaker}
use Rattle.tally_records.specs.Choice.{every_login}
use Rattle.tally_sessions.specs.Stays.{stays_from}
use Rattle.tally_sessions.specs.Sums.{sessions_among}
use Rattle.tally_sessions.proofs.connect.UserRows.{user_rows_are}
use Rattle.tally_sessions.proofs.sums.EverySession.{stays_from_have_lengths, user_among}
use Rattle.tally_sessions.proofs.connect_sums.ConnectSums.by_user.Goals as goal

pub returns : goal.returns
returns c = record {
  value = IfOk-weaker c.from_vec.result _ _ (λ rows is rs h.
      let stays = stays_from 0 [] rs c.args.until in
      is
      ∙ c.in_ok-user_rows.ensures.rows
      ∙ user_rows_are (sessions_among every_login stays) c.in_ok-sums.sums.entries c.in_ok-user_rows.ensures.ordered
      (λ user.
      let own = user_among user stays (stays_from_have_lengths 0 [] rs c.args.until) in
      omega (arith, own, c.in_ok-sums.ensures user rs h))) c.from_vec.ensures;
}
