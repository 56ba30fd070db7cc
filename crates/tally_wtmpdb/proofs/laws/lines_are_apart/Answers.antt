use Rattle.tally_wtmpdb.proofs.Apart.{apart}
use Rattle.tally_wtmpdb.proofs.laws.lines_are_apart.Goals as goal

pub returns : goal.returns
returns c = apart
