use Rattle.std.proofs.Common.{map}
use Rattle.tally_records.proofs.SortedLemmas.{in_order-ascends}
use Rattle.tally_usage.specs.Command.{command_rows, row_of_record}
use Rattle.tally_usage.specs.User.{user_row, user_rows}
use Rattle.tally_usage.proofs.CommandLemmas.{command_cmp_total}
use Rattle.tally_usage.proofs.UserLemmas.{user_cmp_total}
use Rattle.tally_usage.proofs.laws.rows_ascend.Goals as goal

pub returns : goal.returns
unfolding command_rows user_rows
returns c order all rs =
    (in_order-ascends (command_cmp_total order) (map (row_of_record all rs) rs), in_order-ascends (user_cmp_total order) (map (λ r. user_row rs r.uid) rs))
