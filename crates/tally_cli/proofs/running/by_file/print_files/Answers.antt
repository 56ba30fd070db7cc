use Rattle.std.proofs.Common.{◌++◌, ◌∷◌, [], subst, sym}
use Rattle.std.specs.Prelude.{None}
use Rattle.std.specs.List.{flat_map}
use Rattle.tally_print.proofs.PageLemmas.{prints_then}
use Rattle.tally_print.specs.FileUsage.{file_header}
use Rattle.tally_print.specs.Output.{Prints, failed_calls}
use Rattle.tally_print.specs.Tables.{csv_text}
use Rattle.tally_print.specs.declared.output.PrintFault.{PrintFault}
use Rattle.tally_cli.specs.Apart.{apart_of, file_table, files_head}
use Rattle.tally_cli.specs.inside.Parts.{part_text}
use Rattle.tally_cli.proofs.running.by_file.print_files.Goals as goal

pub returns-in_ok-print_file_header-in-Csv : goal.returns-in_ok-print_file_header-in-Csv
returns-in_ok-print_file_header-in-Csv g c =
    let job = c.args.job.now in
    let paths = c.args.apart.asked.paths in
    let texts = flat_map (part_text c.args.clock.now job None (apart_of c.args.apart)) c.args.parts.now in
    let printed = prints_then c.in_ok-print_file_header-in-Csv.ensures.writes c.print_parts-in-Csv.ensures.writes in
    let headed = subst (λ table. Prints {E = PrintFault} (g.O.Output.state c.args.out.now) (g.O.Output.state c.print_parts-in-Csv.new.out) c.print_parts-in-Csv.result (failed_calls c.print_parts-in-Csv.result)
    (csv_text (file_header paths table ∷ []) ++ texts)) c.file_table.ensures printed in
    record {
      writes = subst (λ form. Prints {E = PrintFault} (g.O.Output.state c.args.out.now) (g.O.Output.state c.print_parts-in-Csv.new.out) c.print_parts-in-Csv.result (failed_calls c.print_parts-in-Csv.result)
          (files_head form paths (file_table job.report None) ++ texts)) (sym c.in-Csv.is) headed;
    }
