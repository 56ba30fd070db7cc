use Rattle.std.proofs.Common.{◌∙◌, map, subst, sym}
use Rattle.tally_print.proofs.PageLemmas.{prints_then}
use Rattle.tally_print.specs.Output.{Prints, failed_calls}
use Rattle.tally_print.specs.Section.{answer_in}
use Rattle.tally_print.specs.declared.output.PrintFault.{PrintFault}
use Rattle.tally_sessions.specs.Days.{local}
use Rattle.tally_cli.specs.Apart.{apart_of, path_csv_of}
use Rattle.tally_cli.proofs.PathTables.{section_pieces}
use Rattle.tally_cli.proofs.running.path_tables.print_path_table.Goals as goal

pub returns : goal.returns
returns g c =
    let clock = local c.args.clock.now c.args.job.now.offset in
    let files = (apart_of c.args.apart).files in
    let entries = c.args.sessions.now.entries in
    let sections = c.args.sections.now in
    let is = sym c.in-Some.is ∙ c.table_of.ensures in
    record {
      writes = subst (λ table. Prints {E = PrintFault} (g.O.Output.state c.args.out.now) (g.O.Output.state c.print_rows.new.out) c.print_rows.result (failed_calls c.print_rows.result) (path_csv_of table clock files (map (answer_in entries) sections))) is
          (subst (Prints _ _ _ _) (section_pieces c.in-Some.table clock files entries sections) (prints_then c.in_ok-print_path_header.ensures.writes c.print_rows.ensures.writes));
    }
