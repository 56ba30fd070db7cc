use Rattle.tally_attempts.proofs.LawLemmas.{sum_rows-IsPermutation}
use Rattle.tally_attempts.proofs.laws.record_order_is_free.Goals as goal

pub returns : goal.returns
returns c rs ss moved = sum_rows-IsPermutation rs ss moved
