use Rattle.tally_attempts.proofs.LawLemmas.{rows_together}
use Rattle.tally_attempts.proofs.laws.sums_add_up.Goals as goal
use Rattle.tally_attempts.specs.Sums.{chosen_attempts}

pub returns : goal.returns
returns c choice entries = rows_together (chosen_attempts choice entries)
