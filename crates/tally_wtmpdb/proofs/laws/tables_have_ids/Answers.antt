use Rattle.tally_wtmpdb.proofs.Ids.{table_ids}
use Rattle.tally_wtmpdb.proofs.laws.tables_have_ids.Goals as goal

pub returns : goal.returns
returns c = table_ids
