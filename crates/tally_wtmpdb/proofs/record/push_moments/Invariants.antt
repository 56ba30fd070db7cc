use Rattle.std.proofs.Common.{◌≡◌}
use Rattle.std.specs.Prelude.{flat_map}
use Rattle.tally_wtmpdb.specs.Made.{bytes_of, records_of}
use Rattle.tally_wtmpdb.proofs.record.push_moments.Given as goal

abbrev pub invariant-loop-index : goal.invariant-loop-index
invariant-loop-index l = l.out.items ≡ flat_map bytes_of (records_of l.rows l.moments l.index)
