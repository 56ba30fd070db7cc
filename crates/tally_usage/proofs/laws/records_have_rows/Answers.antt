use Rattle.std.proofs.Common.{map}
use Rattle.tally_records.specs.declared.process.ProcRecord.{ProcRecord}
use Rattle.tally_records.proofs.Members.{Contains-from_Member, Member-from_Contains, Member-map}
use Rattle.tally_records.proofs.SortedLemmas.{in_order-has}
use Rattle.tally_usage.specs.Command.{command_rows, row_of_record}
use Rattle.tally_usage.specs.User.{user_row, user_rows}
use Rattle.tally_usage.proofs.CommandLemmas.{command_cmp_total, ties_are_equal}
use Rattle.tally_usage.proofs.UserLemmas as users
use Rattle.tally_usage.proofs.UserLemmas.{user_cmp_total}
use Rattle.tally_usage.proofs.laws.records_have_rows.Goals as goal

pub returns : goal.returns
unfolding command_rows user_rows
returns c order all rs r is =
    let m = Member-from_Contains rs r is in
    let by_command = Member-map (row_of_record all rs) rs r m in
    let by_user = Member-map (λ (x : ProcRecord). user_row rs x.uid) rs r m in (
      Contains-from_Member _ _ (in_order-has (command_cmp_total order) _ (map (row_of_record all rs) rs) (ties_are_equal all rs order) by_command),
      Contains-from_Member _ _ (in_order-has (user_cmp_total order) _ (map (λ (x : ProcRecord). user_row rs x.uid) rs) (users.ties_are_equal rs order) by_user),
    )
