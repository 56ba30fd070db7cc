use Rattle.tally_wtmpdb.proofs.OfRows.{of_table}
use Rattle.tally_wtmpdb.proofs.laws.sessions_are_of_table.Goals as goal

pub returns : goal.returns
returns c = of_table
