use Rattle.std.proofs.Common.{◌≡◌, ◌++◌, ◌∙◌, ap, filter, map, rules, subst, sym}
use Rattle.std.proofs.lemmas.Fn.{always_returns_same}
use Rattle.std.proofs.lemmas.List.Sorted.{ranks_by}
use Rattle.std.proofs.lemmas.Result.{IfOk-weaker}
use Rattle.std.specs.List.Sorted.{IsPermutation, IsSortedBy}
use Rattle.std.specs.Ordering.{is_lt}
use Rattle.tally_records.specs.Sorted.{in_order}
use Rattle.tally_usage.specs.declared.command.CommandRow.{CommandRow}
use Rattle.tally_usage.specs.Command.{command_row_cmp, row_of_record}
use Rattle.tally_usage.specs.Sums.{AreSumsOf}
use Rattle.tally_usage.specs.inside.Counted.{counted_in}
use Rattle.tally_usage.specs.inside.Rows.{is_joined, joined_usage, others_row, own_rows}
use Rattle.tally_usage.proofs.CommandLemmas.{command_cmp_total, command_rows-turned, others-Fits, rows_in_order}
use Rattle.tally_usage.proofs.sums.Sums.by_command.Goals as goal

pub push_rows-requires : goal.push_rows-requires
push_rows-requires c =
    let known = c.self.invariant in
    others-Fits c.args.all c.self.inside.commands.entries known.0 known.1.commands c.len.ensures.unique known.1.bounded known.1.few

pub returns : goal.returns
returns c =
    let order = c.args.order in
    let xs = c.sort_unstable_by.new.self.items in
    let es = c.self.inside.commands.entries in
    let sorted : IsSortedBy (λ x y. is_lt (command_row_cmp order x y)) xs =
    c.sort_unstable_by.ensures.sorted (λ x y. is_lt (command_row_cmp order x y)) (ranks_by (command_cmp_total order) (λ (r : CommandRow). r)) (always_returns_same _ _ _ (λ a r f k. search rules)) in
    let pushed = c.in_ok-push_rows.ensures ∙ ap (λ l. l ++ (own_rows c.args.all es ++ others_row (joined_usage (filter (is_joined c.args.all) es)))) c.in_ok-rows.ensures.items in
    let moved = subst (λ l. IsPermutation l xs) pushed c.sort_unstable_by.ensures.permutation in
    record {
      value = IfOk-weaker c.turned.result _ _ (λ list is rs sums.
          let here : AreSumsOf (counted_in c.self.inside) rs = subst (λ s. AreSumsOf s rs) (sym c.self.view_is) sums in
          let done : xs ≡ in_order (command_row_cmp order) (map (row_of_record c.args.all rs) rs) = rows_in_order c.args.all es rs here.commands c.len.ensures.unique order xs moved sorted in
          is ∙ command_rows-turned order c.args.all c.args.reverse rs xs done) c.turned.ensures;
    }
