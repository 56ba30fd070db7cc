use Rattle.std.proofs.Common.{◌≡◌, take}
use Rattle.tally_wtmpdb.specs.Moments.{moments}
use Rattle.tally_wtmpdb.proofs.moment.moments.Given as goal

abbrev pub invariant-loop-place : goal.invariant-loop-place
invariant-loop-place l = l.all.items ≡ moments (take l.place l.rows)
