use Rattle.std.proofs.Common.{◌∙◌, ◌++◌, ◌∷◌, sym}
use Rattle.tally_sessions.specs.inside.KeptSessions.{open_ahead}
use Rattle.tally_sessions.proofs.connect_sums.WalkLemmas.{some-weaker}
use Rattle.tally_sessions.proofs.connect_sums.kept_walk.KeptSessionsSessionSource.next_session.Goals as goal

pub returns-in-None-clause-next : goal.returns-in-None-clause-next
returns-in-None-clause-next c =
    let none = c.next_open.ensures.rest ∙ c.in-None.ensures.none in
    some-weaker c.next_open.result _ _ (λ s is.
    (λ i. c.in-None.ensures.end i ++ sym c.next_ended.ensures.rest i)
    ∙ is
    ∙ (λ i. s ∷ (sym none i ++ open_ahead c.next_open.new.self))) c.next_open.ensures.next
