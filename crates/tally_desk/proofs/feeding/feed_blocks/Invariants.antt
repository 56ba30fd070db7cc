use Rattle.std.proofs.Common.{◌≡◌, ◌⊎◌, ◌*◌, ◌≤◌, ℕ, List, Some, vec_capacity, vec_len}
use Rattle.tally_desk.specs.Blocks.{block_size}
use Rattle.tally_desk.specs.Feeds.{Posts}
use Rattle.tally_desk.specs.Passes.{IsCurrent, Keeps}
use Rattle.tally_desk.specs.Takings.{TakesAtMost}
use Rattle.tally_desk.proofs.Taken.{Told}
use Rattle.tally_desk.proofs.FeedLemmas.{FullPosts}
use Rattle.tally_desk.proofs.feeding.feed_blocks.Given as goal

abbrev pub invariant-loop-turn : goal.invariant-loop-turn
invariant-loop-turn g l = record {
  countable : g.I.Input.failures l.input ≡ g.I.Input.failures l.initial.input;
  nature : g.I.Input.can_fail l.input ≡ g.I.Input.can_fail l.initial.input;
  taken : TakesAtMost (l.turn * block_size l.kind) (g.I.Input.to_come l.initial.input) (g.I.Input.to_come l.input);
  room : block_size l.kind ≤ vec_capacity l.block;
  ready : vec_len l.block ≤ block_size l.kind;
  keeps : Keeps l.initial.pass l.pass;
  current : (l.pass ≡ l.initial.pass) ⊎ IsCurrent l.pass;
  posts : FullPosts l.kind (Posts l.initial.pass l.pass) l.turn;
  told : (bytes : List ℕ) → g.I.Input.to_come l.initial.input ≡ Some bytes
      → Told l.most l.kind (g.I.Input.to_come l.input) (Posts l.initial.pass l.pass) l.turn bytes;
}
