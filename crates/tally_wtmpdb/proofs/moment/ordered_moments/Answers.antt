use Rattle.std.proofs.Common.{rules, subst}
use Rattle.std.proofs.lemmas.Fn.{always_returns_same}
use Rattle.std.proofs.lemmas.List.Sorted.{ranks_by}
use Rattle.std.specs.List.Sorted.{IsPermutation, IsSortedBy}
use Rattle.std.specs.Ordering.{is_lt}
use Rattle.tally_wtmpdb.proofs.Order.{cmp_total}
use Rattle.tally_wtmpdb.proofs.moment.ordered_moments.Goals as goal
use Rattle.tally_wtmpdb.specs.Moments.{moment_cmp}
use Rattle.tally_wtmpdb.specs.declared.moment.Moment.{Moment}

pub returns : goal.returns
returns c =
    let xs = c.sort_unstable_by.new.self.items in
    let sorted : IsSortedBy (λ x y. is_lt (moment_cmp x y)) xs =
    c.sort_unstable_by.ensures.sorted (λ x y. is_lt (moment_cmp x y)) (ranks_by cmp_total (λ (a : Moment). a)) (always_returns_same _ _ _ (λ a r f k. search rules)) in
    record { same = subst (λ l. IsPermutation l xs) c.in_ok-all.ensures c.sort_unstable_by.ensures.permutation; ascend = sorted }
