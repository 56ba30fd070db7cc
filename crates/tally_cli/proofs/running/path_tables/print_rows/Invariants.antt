use Rattle.std.proofs.Common.{Ok, take}
use Rattle.std.specs.List.{enumerate_from, flat_map}
use Rattle.tally_print.specs.Output.{Prints}
use Rattle.tally_print.specs.declared.output.PrintFault.{PrintFault}
use Rattle.tally_sessions.specs.Days.{local}
use Rattle.tally_cli.specs.Apart.{apart_of}
use Rattle.tally_cli.specs.inside.Paths.{section_text}
use Rattle.tally_cli.proofs.running.path_tables.print_rows.Given as goal

-- the sections before this one were printed
abbrev pub invariant-loop-file : goal.invariant-loop-file
invariant-loop-file g l =
    Prints {E = PrintFault} (g.O.Output.state l.initial.out) (g.O.Output.state l.out) (Ok tt) 0
    (flat_map (section_text l.table (local l.clock l.job.offset) (apart_of l.apart).files l.sessions.entries) (take l.file (enumerate_from 0 l.sections)))
