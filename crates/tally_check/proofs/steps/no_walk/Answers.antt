use Rattle.tally_check.proofs.StepLemmas.{walk-none}
use Rattle.tally_check.proofs.steps.no_walk.Goals as goal

pub returns : goal.returns
returns c = walk-none
