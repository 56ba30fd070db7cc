use Rattle.std.proofs.Common.{◌≡◌, ◌∙◌, ap, map, rules, subst}
use Rattle.std.proofs.lemmas.Fn.{always_returns_same}
use Rattle.std.proofs.lemmas.List.Sorted.{ranks_by}
use Rattle.std.proofs.lemmas.Result.{IfOk-weaker}
use Rattle.std.specs.List.Sorted.{IsPermutation, IsSortedBy}
use Rattle.std.specs.Ordering.{is_lt}
use Rattle.tally_usage.specs.declared.user.UidRow.{UidRow}
use Rattle.tally_records.specs.Sorted.{in_order}
use Rattle.tally_usage.specs.inside.Entries.{records_kept}
use Rattle.tally_usage.specs.inside.Sound.{stored_of}
use Rattle.tally_usage.specs.Totals.{records_of}
use Rattle.tally_usage.specs.User.{user_row, user_row_cmp, user_rows}
use Rattle.tally_usage.proofs.UserLemmas.{rows_in_order, user_cmp_total, user_rows-turned}
use Rattle.tally_usage.proofs.summary.Summary.by_user.Goals as goal

pub returns : goal.returns
returns c =
    let order = c.args.order in
    let xs = c.sort_unstable_by.new.self.items in
    let rs = records_kept (stored_of c.self.inside) in
    let sorted : IsSortedBy (λ x y. is_lt (user_row_cmp order x y)) xs =
    c.sort_unstable_by.ensures.sorted (λ x y. is_lt (user_row_cmp order x y)) (ranks_by (user_cmp_total order) (λ (r : UidRow). r)) (always_returns_same _ _ _ (λ a r f k. search rules)) in
    let moved = subst (λ l. IsPermutation l xs) c.in_ok-rows.ensures.rows c.sort_unstable_by.ensures.permutation in
    let done : xs ≡ in_order (user_row_cmp order) (map (λ r. user_row rs r.uid) rs) = rows_in_order c.self.inside.users.entries rs c.self.invariant.users c.in_ok-rows.ensures.unique order xs moved sorted in
    let seen = ap (λ v. user_rows order c.args.reverse (records_of v.entries)) c.self.view_is in
    record {
      value = IfOk-weaker c.turned.result _ _ (λ list is. is ∙ user_rows-turned order c.args.reverse rs xs done ∙ seen) c.turned.ensures;
    }
