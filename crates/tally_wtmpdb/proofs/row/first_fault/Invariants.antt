use Rattle.std.proofs.Common.{◌≡◌, drop}
use Rattle.tally_wtmpdb.specs.Rows.{first_fault}
use Rattle.tally_wtmpdb.proofs.row.first_fault.Given as goal

abbrev pub invariant-loop-row : goal.invariant-loop-row
invariant-loop-row l = first_fault (drop l.row-index l.rows) ≡ first_fault l.rows
