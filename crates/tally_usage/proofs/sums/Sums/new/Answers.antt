use Rattle.std.proofs.Common.{[]}
use Rattle.tally_usage.proofs.SumsLemmas.{no-sums}
use Rattle.tally_usage.proofs.sums.Sums.new.Goals as goal

pub invariant_of-result : goal.invariant_of-result
invariant_of-result c = ([], no-sums _ c.with_hasher.ensures.empty c.with_hasher-2.ensures.empty c.none.ensures)

pub returns : goal.returns
returns c = no-sums _ c.with_hasher.ensures.empty c.with_hasher-2.ensures.empty c.none.ensures
