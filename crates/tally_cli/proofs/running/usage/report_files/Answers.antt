use Rattle.std.proofs.Common.{◌++◌, ◌∷◌, [], ◌∙◌, ap, refl, rules, subst}
use Rattle.std.specs.List.{flat_map}
use Rattle.tally_print.specs.FileUsage.{file_header}
use Rattle.tally_print.specs.Output.{Prints}
use Rattle.tally_print.specs.Tables.{csv_text}
use Rattle.tally_print.proofs.PageLemmas.{prints_stop, prints_then}
use Rattle.tally_cli.specs.UsageOutput.{usage_output, wanted_of}
use Rattle.tally_cli.specs.inside.Parts.{part_text}
use Rattle.tally_cli.proofs.Parts.{in_table, in_text}
use Rattle.tally_cli.proofs.Reported.{prints_as}
use Rattle.tally_cli.proofs.Summed.{entry_sums}
use Rattle.tally_cli.proofs.UsageRuns.{prints_from}
use Rattle.tally_cli.proofs.running.usage.report_files.Goals as goal

pub returns-in_err-print_parts-in-Text-clause-writes : goal.returns-in_err-print_parts-in-Text-clause-writes
returns-in_err-print_parts-in-Text-clause-writes g c = λ inputs summed are.
    let wanted = wanted_of c.args.wanted in
    let all = usage_output c.args.clock.now c.args.job.now wanted inputs in
    let same = ap (λ ps. flat_map (part_text c.args.clock.now c.args.job.now wanted.names wanted.apart) ps ++ all) c.as_slice-parts.ensures.value ∙ in_text c.args.clock.now c.args.job.now wanted inputs c.args.joined.now.parts.items are c.in-Text.is in
    prints_from c.in_err-print_parts-in-Text.field-0.0 _ (search rules) (subst (Prints _ _ _ _) same (prints_stop c.in_err-print_parts-in-Text.field-0.0 refl all c.in_err-print_parts-in-Text.ensures.writes))

pub returns-in_ok-print_parts-in-Text-clause-writes : goal.returns-in_ok-print_parts-in-Text-clause-writes
returns-in_ok-print_parts-in-Text-clause-writes g c = λ inputs summed are.
    let wanted = wanted_of c.args.wanted in
    let all = usage_output c.args.clock.now c.args.job.now wanted inputs in
    let same = ap (λ ps. flat_map (part_text c.args.clock.now c.args.job.now wanted.names wanted.apart) ps ++ all) c.as_slice-parts.ensures.value ∙ in_text c.args.clock.now c.args.job.now wanted inputs c.args.joined.now.parts.items are c.in-Text.is in
    subst (Prints _ _ _ _) same (prints_then c.in_ok-print_parts-in-Text.ensures.writes (c.report_sums.ensures.writes _ _ _ (entry_sums c.args.wanted.choice inputs _ summed)))

pub returns-in_err-print_parts-in-Csv-clause-writes : goal.returns-in_err-print_parts-in-Csv-clause-writes
returns-in_err-print_parts-in-Csv-clause-writes g c = λ inputs summed are.
    let wanted = wanted_of c.args.wanted in
    let same = (λ i. csv_text (file_header wanted.apart.paths (c.file_table-table.ensures i) ∷ []) ++ flat_map (part_text c.args.clock.now c.args.job.now wanted.names wanted.apart) (c.as_slice-parts.ensures.value i)) ∙ in_table c.args.clock.now c.args.job.now wanted inputs c.args.joined.now.parts.items are c.in-Csv.is in
    prints_from c.in_err-print_parts-in-Csv.field-0.0 _ (search rules) (subst (Prints _ _ _ _) same (prints_then c.in_ok-print_file_header-in-Csv.ensures.writes c.in_err-print_parts-in-Csv.ensures.writes))

pub returns-in_ok-print_parts-in-Csv-clause-writes : goal.returns-in_ok-print_parts-in-Csv-clause-writes
returns-in_ok-print_parts-in-Csv-clause-writes g c = λ inputs summed are.
    let wanted = wanted_of c.args.wanted in
    let same = (λ i. csv_text (file_header wanted.apart.paths (c.file_table-table.ensures i) ∷ []) ++ flat_map (part_text c.args.clock.now c.args.job.now wanted.names wanted.apart) (c.as_slice-parts.ensures.value i)) ∙ in_table c.args.clock.now c.args.job.now wanted inputs c.args.joined.now.parts.items are c.in-Csv.is in
    prints_as same (prints_then c.in_ok-print_file_header-in-Csv.ensures.writes c.in_ok-print_parts-in-Csv.ensures.writes)
