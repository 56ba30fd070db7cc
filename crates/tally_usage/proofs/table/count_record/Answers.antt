use Rattle.std.proofs.Common.{◌∙◌, ◌∷◌, [], ap, subst}
use Rattle.tally_records.specs.PackedProc.{record_of}
use Rattle.tally_records.specs.declared.process.ProcRecord.{ProcRecord}
use Rattle.tally_usage.specs.Command.{command_of, is_same_command}
use Rattle.tally_usage.specs.Totals.{HasMore}
use Rattle.tally_usage.specs.Usage.{usage_of}
use Rattle.tally_usage.proofs.table.count_record.Goals as goal

pub returns-clause-commands : goal.returns-clause-commands
returns-clause-commands c =
    let process = c.record-process.ensures.value in
    let old = c.args.commands.now.entries in
    let new = c.count-place.new.table.entries in
    subst (λ k. HasMore is_same_command old new k (usage_of (record_of c.args.packed.now ∷ []))) (c.of-command.ensures ∙ ap command_of process)
    (subst (HasMore is_same_command old new c.of-command.result) (c.of-usage.ensures ∙ ap (λ (r : ProcRecord). usage_of (r ∷ [])) process) c.count-place.ensures.counted)
