use Rattle.tally_wtmpdb.proofs.Near.{near}
use Rattle.tally_wtmpdb.proofs.laws.seconds_are_near.Goals as goal

pub returns : goal.returns
returns c = near
