use Rattle.std.proofs.Common.{arith}
use Rattle.tally_usage.proofs.SumsLemmas.{count_is}
use Rattle.tally_usage.proofs.sums.Sums.add_chosen.Goals as goal

pub overflow_add-self-inside : goal.overflow_add-self-inside
overflow_add-self-inside c =
    let known = c.self.invariant in
    omega (arith, count_is _ known.0 known.1, known.1.few, c.len-count.ensures.limit)
