use Rattle.std.proofs.Common.{◌≡◌, ◌+◌, ◌-◌, cond, length}
use Rattle.tally_check.proofs.ReadLemmas.{SoFar}
use Rattle.tally_check.specs.Kinds.{most_bytes}
use Rattle.tally_check.specs.declared.tally.TheConstants.{BLOCK_SIZE}
use Rattle.tally_check.proofs.reading.count_all.Given as goal

abbrev pub invariant-loop-is_last : goal.invariant-loop-is_last
invariant-loop-is_last g l = record {
  room : length l.block.items ≡ BLOCK_SIZE;
  guess : l.tally.guess ≡ l.initial.tally.guess;
  so_far : SoFar (g.R.Read.remaining l.initial.reader) (g.R.Read.remaining l.reader) l.tally l.sessions l.is_last;
}

abbrev pub decreases-loop-is_last : goal.decreases-loop-is_last
decreases-loop-is_last g l = (most_bytes l.tally.guess - l.tally.size) + cond l.is_last 0 1
