use Rattle.std.proofs.Common.{◌≡◌, ◌∙◌, map, rules, subst, sym}
use Rattle.std.proofs.lemmas.Fn.{always_returns_same}
use Rattle.std.proofs.lemmas.List.Sorted.{ranks_by}
use Rattle.std.proofs.lemmas.Result.{IfOk-weaker}
use Rattle.std.specs.List.Sorted.{IsPermutation, IsSortedBy}
use Rattle.std.specs.Ordering.{is_lt}
use Rattle.tally_records.specs.Sorted.{in_order}
use Rattle.tally_usage.specs.declared.user.UidRow.{UidRow}
use Rattle.tally_usage.specs.Sums.{AreSumsOf}
use Rattle.tally_usage.specs.User.{user_row, user_row_cmp}
use Rattle.tally_usage.specs.inside.Counted.{counted_in}
use Rattle.tally_usage.proofs.UserLemmas.{rows_in_order, user_cmp_total, user_rows-turned}
use Rattle.tally_usage.proofs.sums.Sums.by_user.Goals as goal

pub returns : goal.returns
returns c =
    let order = c.args.order in
    let xs = c.sort_unstable_by.new.self.items in
    let sorted : IsSortedBy (λ x y. is_lt (user_row_cmp order x y)) xs =
    c.sort_unstable_by.ensures.sorted (λ x y. is_lt (user_row_cmp order x y)) (ranks_by (user_cmp_total order) (λ (r : UidRow). r)) (always_returns_same _ _ _ (λ a r f k. search rules)) in
    let moved = subst (λ l. IsPermutation l xs) c.in_ok-rows.ensures.rows c.sort_unstable_by.ensures.permutation in
    record {
      value = IfOk-weaker c.turned.result _ _ (λ list is rs sums.
          let here : AreSumsOf (counted_in c.self.inside) rs = subst (λ s. AreSumsOf s rs) (sym c.self.view_is) sums in
          let done : xs ≡ in_order (user_row_cmp order) (map (λ r. user_row rs r.uid) rs) = rows_in_order c.self.inside.users.entries rs here.users c.in_ok-rows.ensures.unique order xs moved sorted in
          is ∙ user_rows-turned order c.args.reverse rs xs done) c.turned.ensures;
    }
