use Rattle.std.proofs.Common.{◌∙◌, sym, ap, subst}
use Rattle.std.specs.Prelude.{sum_by}
use Rattle.tally_sessions.specs.ConnectSums.{Counted, IsCountOf}
use Rattle.tally_sessions.specs.inside.Running.{counted_in}
use Rattle.tally_sessions.proofs.connect_sums.SessionLemmas.{sessions_are}
use Rattle.tally_sessions.proofs.connect_sums.ConnectSums.sessions.Goals as goal

pub returns-clause-value : goal.returns-clause-value
returns-clause-value c keeps rs h weight =
    let c' = counted_in c.self.inside.running in
    ap (sum_by weight) c.sessions.ensures.value
    ∙ sessions_are c' rs c.args.until (subst (λ (k : Counted). IsCountOf k rs) (sym c.self.view_is) h) (ap (λ (k : Counted). k.keeps_sessions) c.self.view_is ∙ keeps) weight
