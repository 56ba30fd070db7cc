use Rattle.tally_usage.proofs.RowTotals.{rows_add_up}
use Rattle.tally_usage.proofs.laws.rows_add_up.Goals as goal

pub returns : goal.returns
returns c = rows_add_up
