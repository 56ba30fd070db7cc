use Rattle.std.proofs.Common.{rules, subst}
use Rattle.std.proofs.lemmas.Fn.{always_returns_same}
use Rattle.std.proofs.lemmas.List.Sorted.{ranks_by}
use Rattle.std.specs.List.Sorted.{IsPermutation, IsSortedBy}
use Rattle.std.specs.Ordering.{is_lt}
use Rattle.tally_attempts.proofs.SumLemmas.{cmp_total, rows_in_order}
use Rattle.tally_attempts.proofs.sums.ordered_rows.Goals as goal
use Rattle.tally_attempts.specs.Sums.{attempt_sum_cmp}
use Rattle.tally_attempts.specs.declared.attempt.AttemptSum.{AttemptSum}

pub returns : goal.returns
returns c =
    let xs = c.sort_unstable_by.new.self.items in
    let sorted : IsSortedBy (λ x y. is_lt (attempt_sum_cmp x y)) xs =
    c.sort_unstable_by.ensures.sorted (λ x y. is_lt (attempt_sum_cmp x y)) (ranks_by cmp_total (λ (a : AttemptSum). a)) (always_returns_same _ _ _ (λ a r f k. search rules)) in
    let moved = subst (λ l. IsPermutation l xs) c.in_ok-rows.ensures.rows c.sort_unstable_by.ensures.permutation in
    λ rs has. rows_in_order c.args.table.now.entries rs has c.in_ok-rows.ensures.unique xs moved sorted
