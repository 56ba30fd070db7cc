use Rattle.std.proofs.Common.{◌≡◌, ◌*◌, ◌≤◌, ℕ, List, Some, vec_capacity, vec_len}
use Rattle.tally_records.specs.declared.batch.Kind.TheVariants.{Proc}
use Rattle.tally_desk.specs.Blocks.{block_size}
use Rattle.tally_desk.specs.Takings.{TakesAtMost}
use Rattle.tally_desk.proofs.CountingLemmas.{HasCounted, ToldCount}
use Rattle.tally_desk.proofs.feeding.counting.count_blocks.Given as goal

abbrev pub invariant-loop-turn : goal.invariant-loop-turn
invariant-loop-turn g l = record {
  countable : g.I.Input.failures l.input ≡ g.I.Input.failures l.initial.input;
  nature : g.I.Input.can_fail l.input ≡ g.I.Input.can_fail l.initial.input;
  taken : TakesAtMost (l.turn * block_size Proc) (g.I.Input.to_come l.initial.input) (g.I.Input.to_come l.input);
  room : block_size Proc ≤ vec_capacity l.block;
  ready : vec_len l.block ≤ block_size Proc;
  counted : HasCounted l.sums l.turn;
  told : (bytes : List ℕ) → g.I.Input.to_come l.initial.input ≡ Some bytes
      → ToldCount l.initial.choice l.initial.most (g.I.Input.to_come l.input) l.sums l.turn bytes;
}
