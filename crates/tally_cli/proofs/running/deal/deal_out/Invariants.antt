use Rattle.std.proofs.Common.{◌≡◌, ◌+◌, ◌-◌, ◌<◌, ℕ, length, map, drop, get_or}
use Rattle.std.specs.Prelude.{sum_by}
use Rattle.std.specs.List.{All}
use Rattle.tally_desk.specs.Passes.{PassState}
use Rattle.tally_cli.specs.inside.Tasks.{AreReady}
use Rattle.tally_cli.proofs.Dealt.{AreBelow}
use Rattle.tally_cli.specs.inside.Deals.{IsIn, IsTaskOf, task_of}
use Rattle.tally_cli.proofs.running.deal.deal_out.Given as goal

abbrev pub invariant-loop-number : goal.invariant-loop-number
invariant-loop-number g l = record {
  passes : l.passes.items ≡ drop l.number l.fn.passes.items;
  sources : l.sources.items ≡ drop l.number l.fn.sources.items;
  width : length l.lists.items ≡ l.feeders + (length l.fn.passes.items - length l.fn.sources.items);
  dealt : (k : ℕ) (p : PassState) → k < l.number → IsIn (map (λ v. v.items) l.lists.items) (task_of l.fn.asking l.fn.sources.items k (get_or l.fn.passes.items k p));
  only : All (All (IsTaskOf l.fn.asking l.fn.sources.items l.fn.passes.items)) (map (λ v. v.items) l.lists.items);
  all : sum_by length (map (λ v. v.items) l.lists.items) ≡ l.number;
  ready : All (AreReady g.I.Input.failures l.desk) (map (λ v. v.items) l.lists.items);
  less : All (AreBelow l.number) (map (λ v. v.items) l.lists.items);
}
