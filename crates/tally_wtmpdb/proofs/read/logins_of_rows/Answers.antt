use Rattle.std.proofs.Common.{◌≡◌, length, arith}
use Rattle.std.proofs.lemmas.List.Sorted.{length_permutation}
use Rattle.tally_wtmpdb.specs.Moments.{moments}
use Rattle.tally_wtmpdb.proofs.read.logins_of_rows.Goals as goal

pub returns-then-count-limit-clause-cause : goal.returns-then-count-limit-clause-cause
returns-then-count-limit-clause-cause c =
    let same : length c.in_ok-moments.moments.items ≡ length (moments c.args.rows.now) = length_permutation _ _ c.in_ok-moments.ensures.same in
    (omega (arith, same, c.in_ok-moments.moments.ok), omega arith)

pub returns-clause-few : goal.returns-clause-few
returns-clause-few c =
    let same : length c.in_ok-moments.moments.items ≡ length (moments c.args.rows.now) = length_permutation _ _ c.in_ok-moments.ensures.same in
    omega (arith, same, c.in_ok-moments.moments.ok)
