use Rattle.std.proofs.Common.{◌≡◌, ◌*◌, ◌≤◌, ℕ, List, Some, vec_capacity, vec_len}
use Rattle.tally_records.specs.declared.batch.Kind.TheVariants.{Login}
use Rattle.tally_desk.specs.Blocks.{block_size}
use Rattle.tally_desk.specs.Takings.{TakesAtMost}
use Rattle.tally_desk.proofs.Taken.{Told}
use Rattle.tally_desk.proofs.LoginCountLemmas.{CountsIn, HasCounted}
use Rattle.tally_desk.proofs.feeding.login_counting.count_login_blocks.Given as goal

abbrev pub invariant-loop-turn : goal.invariant-loop-turn
invariant-loop-turn g l = record {
  countable : g.I.Input.failures l.input ≡ g.I.Input.failures l.initial.input;
  nature : g.I.Input.can_fail l.input ≡ g.I.Input.can_fail l.initial.input;
  taken : TakesAtMost (l.turn * block_size Login) (g.I.Input.to_come l.initial.input) (g.I.Input.to_come l.input);
  room : block_size Login ≤ vec_capacity l.block;
  ready : vec_len l.block ≤ block_size Login;
  counted : HasCounted l.sums l.turn;
  keeps : l.sums.keeps_sessions ≡ l.initial.sums.keeps_sessions;
  told : (bytes : List ℕ) → g.I.Input.to_come l.initial.input ≡ Some bytes
      → Told l.most Login (g.I.Input.to_come l.input) (CountsIn l.sums) l.turn bytes;
}
