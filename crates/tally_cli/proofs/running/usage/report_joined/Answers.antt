use Rattle.std.proofs.Common.{map, subst, sym}
use Rattle.std.specs.Prelude.{if◌then◌else◌}
use Rattle.tally_print.specs.Output.{Prints}
use Rattle.tally_cli.specs.Output.{login_entries, proc_entries}
use Rattle.tally_cli.specs.Runs.{Told, records_told}
use Rattle.tally_cli.specs.UsageOutput.{by_file_output, chosen_entries, usage_output, wanted_of}
use Rattle.tally_cli.specs.Usages.{unwritten_calls}
use Rattle.tally_cli.specs.declared.fault.UsageFault.{UsageFault}
use Rattle.tally_cli.proofs.Summed.{entry_sums}
use Rattle.tally_cli.proofs.running.usage.report_joined.Goals as goal

pub returns-else-wanted-clause-writes : goal.returns-else-wanted-clause-writes
returns-else-wanted-clause-writes g c = λ inputs summed answered.
    let choice = c.args.wanted.choice in
    let files = map records_told inputs in
    let wanted = wanted_of c.args.wanted in
    let job = c.args.job.now in
    subst (λ by_file. Prints {E = UsageFault} (g.O.Output.state c.args.out.now) (g.O.Output.state c.report_sums.new.out) c.report_sums.result (unwritten_calls c.report_sums.result)
    (if by_file then by_file_output c.args.clock.now job wanted inputs else usage_output c.args.clock.now job wanted inputs)) (sym c.if-wanted.false)
    (c.report_sums.ensures.writes (map (λ (i : Told). i.kind) inputs) (login_entries files) (chosen_entries choice (proc_entries files)) (entry_sums choice inputs _ summed))
