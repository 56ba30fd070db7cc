use Rattle.std.proofs.Common.{Ok, flat_map, take}
use Rattle.tally_sessions.specs.Days.{local}
use Rattle.tally_print.specs.Output.{Prints}
use Rattle.tally_print.specs.ReportTable.{answer_rows}
use Rattle.tally_print.specs.Section.{answer_in}
use Rattle.tally_print.specs.Tables.{csv_text}
use Rattle.tally_print.specs.declared.output.PrintFault.{PrintFault}
use Rattle.tally_print.proofs.section.print_section_table.Given as goal

-- the rows of the sections before this one were printed
abbrev pub invariant-loop-section : goal.invariant-loop-section
invariant-loop-section g l =
    Prints {E = PrintFault} (g.O.Output.state l.initial.out) (g.O.Output.state l.out) (Ok tt) 0
    (flat_map (λ section. csv_text (answer_rows l.table (local l.clock l.offset) (answer_in l.sessions.entries section))) (take l.section-index l.sections))
