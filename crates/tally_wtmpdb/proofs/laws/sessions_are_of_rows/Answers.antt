use Rattle.tally_wtmpdb.proofs.OfRows.{of_rows}
use Rattle.tally_wtmpdb.proofs.laws.sessions_are_of_rows.Goals as goal

pub returns : goal.returns
returns c = of_rows
