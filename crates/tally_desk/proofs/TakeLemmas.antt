-- How much a feed takes from its input.
use Rattle.std.proofs.Common.{◌≤◌, ◌<◌, ◌+◌, ◌*◌, ◌++◌, [], ℕ, List, Option, arith, length-append}
use Rattle.std.proofs.KnownBytes.{Consumes-nil, Consumes-trans}
use Rattle.tally_records.specs.declared.batch.Kind.{Kind}
use Rattle.tally_records.specs.declared.batch.Kind.TheVariants.{Login, FailedLogin, Proc}
use Rattle.tally_desk.specs.Blocks.{block_size}
use Rattle.tally_desk.specs.Takings.{TakesAtMost}

pub takes_none : (most : ℕ) (a : Option (List ℕ)) → TakesAtMost most a a
takes_none most a = ([], Consumes-nil a, omega arith)

pub takes_more : (m n most : ℕ) (a b c : Option (List ℕ)) → TakesAtMost m a b → TakesAtMost n b c → m + n ≤ most → TakesAtMost most a c
takes_more m n most a b c first second few =
    (first.0 ++ second.0, Consumes-trans a b c _ _ first.1 second.1, omega (arith, first.2, second.2, length-append first.0 second.0))

few_blocks : (most : ℕ) (kind : Kind) (turn : ℕ) → turn < most → turn * block_size kind + block_size kind ≤ most * block_size kind + 1
few_blocks most Login turn early = omega arith
few_blocks most FailedLogin turn early = omega arith
few_blocks most Proc turn early = omega arith

next_block : (kind : Kind) (turn : ℕ) → turn * block_size kind + block_size kind ≤ (turn + 1) * block_size kind
next_block Login turn = omega arith
next_block FailedLogin turn = omega arith
next_block Proc turn = omega arith

all_blocks : (most : ℕ) (kind : Kind) (turn more : ℕ) → turn ≤ most → more ≤ 1 → turn * block_size kind + more ≤ most * block_size kind + 1
all_blocks most Login turn more early few = omega arith
all_blocks most FailedLogin turn more early few = omega arith
all_blocks most Proc turn more early few = omega arith

-- a feed took so many blocks
module _ (kind : Kind) (turn : ℕ) (a b c : Option (List ℕ)) (so_far : TakesAtMost (turn * block_size kind) a b) where
  pub takes_next : TakesAtMost (block_size kind) b c → TakesAtMost ((turn + 1) * block_size kind) a c
  takes_next block = takes_more _ _ _ a b c so_far block (next_block kind turn)

  pub takes_few : (most : ℕ) → TakesAtMost (block_size kind) b c → turn < most → TakesAtMost (most * block_size kind + 1) a c
  takes_few most block early = takes_more _ _ _ a b c so_far block (few_blocks most kind turn early)

  -- and then looked for the end
  pub takes_last : (most : ℕ) → TakesAtMost 1 b c → turn ≤ most → TakesAtMost (most * block_size kind + 1) a c
  takes_last most byte early = takes_more _ _ _ a b c so_far byte (all_blocks most kind turn 1 early (omega arith))
