use Rattle.std.proofs.Common.{subst, sym}
use Rattle.tally_usage.specs.Sums.{AreSumsOf}
use Rattle.tally_usage.proofs.SumsLemmas.{joined_to_none}
use Rattle.tally_usage.proofs.sums.Sums.merge.Goals as goal

pub returns-then-self-eq0-clause-merged : goal.returns-then-self-eq0-clause-merged
returns-then-self-eq0-clause-merged c = λ rs ss sums too.
    joined_to_none _ _ rs ss c.if-self-eq0.true (subst (λ s. AreSumsOf s rs) (sym c.self.view_is) sums) (subst (λ s. AreSumsOf s ss) (sym c.other.view_is) too)
