use Rattle.tally_wtmpdb.proofs.ReadAll.{read_back}
use Rattle.tally_wtmpdb.proofs.laws.records_read_back.Goals as goal

pub returns : goal.returns
returns c = read_back
