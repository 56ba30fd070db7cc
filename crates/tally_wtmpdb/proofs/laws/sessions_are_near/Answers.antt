use Rattle.tally_wtmpdb.proofs.NearSessions.{sessions_near}
use Rattle.tally_wtmpdb.proofs.laws.sessions_are_near.Goals as goal

pub returns : goal.returns
returns c = sessions_near
