use Rattle.tally_usage.proofs.PermutationLemmas.{command_rows-IsPermutation, total-IsPermutation, user_rows-IsPermutation}
use Rattle.tally_usage.proofs.laws.record_order_is_free.Goals as goal

pub returns : goal.returns
returns c order all reversed rs ss moved =
    (command_rows-IsPermutation order all reversed rs ss moved, user_rows-IsPermutation order reversed rs ss moved, total-IsPermutation rs ss moved)
