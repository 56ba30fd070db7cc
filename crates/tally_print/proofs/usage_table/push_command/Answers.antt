use Rattle.std.proofs.lemmas.Result.{IfOk-equal}
use Rattle.tally_print.proofs.UsageTableLemmas.{command_row_text}
use Rattle.tally_print.proofs.usage_table.push_command.Goals as goal

pub returns : goal.returns
returns c =
    IfOk-equal c.push_usage.result _ _ _ c.push_usage.ensures
    (rw c.in_ok-push_name.ensures (command_row_text c.args.line.now.items c.args.row.now))
