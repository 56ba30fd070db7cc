use Rattle.std.proofs.Common.{Ok, flat_map, take}
use Rattle.tally_sessions.specs.Days.{local}
use Rattle.tally_print.specs.Output.{Prints}
use Rattle.tally_print.specs.ReportTable.{answer_rows}
use Rattle.tally_print.specs.Tables.{csv_text}
use Rattle.tally_print.specs.declared.output.PrintFault.{PrintFault}
use Rattle.tally_print.proofs.report_table.print_table.Given as goal

-- the rows of the answers before this one were printed
abbrev pub invariant-loop-answer : goal.invariant-loop-answer
invariant-loop-answer g l =
    Prints {E = PrintFault} (g.O.Output.state l.initial.out) (g.O.Output.state l.out) (Ok tt) 0
    (flat_map (λ answer. csv_text (answer_rows l.table (local l.clock l.offset) answer)) (take l.answer-index l.answers))
