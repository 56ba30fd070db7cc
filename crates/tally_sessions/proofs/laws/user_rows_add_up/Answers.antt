use Rattle.tally_sessions.proofs.connect.RowTotals.{user_rows_add_up}
use Rattle.tally_sessions.proofs.laws.user_rows_add_up.Goals as goal

pub returns : goal.returns
returns c = user_rows_add_up
