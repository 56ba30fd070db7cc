use Rattle.std.proofs.Common.{◌≡◌, [], length}
use Rattle.std.specs.List.{All}
use Rattle.tally_cli.proofs.running.deal.empty_lists.Given as goal

abbrev pub invariant-loop : goal.invariant-loop
invariant-loop g l = record {
  count : length l.lists.items ≡ l.counter;
  empty : All (λ v. v.items ≡ []) l.lists.items;
}
