-- That the order of moments is total.
use Rattle.std.specs.Cmp.{IsTotalOrder, int_cmp_total}
use Rattle.std.proofs.lemmas.Cmp.{nat_cmp_total, on_total, then_total}
use Rattle.tally_wtmpdb.specs.Moments.{moment_cmp, rank}
use Rattle.tally_wtmpdb.specs.declared.moment.Moment.{Moment}

pub cmp_total : IsTotalOrder moment_cmp
cmp_total =
    then_total (on_total (λ (a : Moment). a.micros) int_cmp_total)
    (then_total (on_total (λ (a : Moment). rank a.what) nat_cmp_total) (on_total (λ (a : Moment). a.place) nat_cmp_total))
