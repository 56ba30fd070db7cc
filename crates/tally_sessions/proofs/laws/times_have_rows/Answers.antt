use Rattle.tally_sessions.proofs.connect.CompleteRows.{rows_are_complete}
use Rattle.tally_sessions.proofs.laws.times_have_rows.Goals as goal

pub returns : goal.returns
returns c = rows_are_complete
