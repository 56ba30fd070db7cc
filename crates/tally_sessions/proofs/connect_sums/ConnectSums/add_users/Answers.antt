use Rattle.std.proofs.Common.{sym, subst, arith}
use Rattle.std.proofs.lemmas.Result.{on_ok_weaker}
use Rattle.tally_sessions.specs.ConnectSums.{Counted, IsCountOf}
use Rattle.tally_sessions.proofs.connect_sums.ConnectSums.add_users.Goals as goal

pub returns-clause-value : goal.returns-clause-value
returns-clause-value c =
    on_ok_weaker c.add_users.result (λ is user rs h. is user rs (subst (λ (k : Counted). IsCountOf k rs) (sym c.self.view_is) h)) c.add_users.ensures.value

pub returns-clause-fits : goal.returns-clause-fits
returns-clause-fits c = on_ok_weaker c.add_users.result (λ small user. omega (arith, small user, c.self.invariant.bounded)) c.add_users.ensures.small
