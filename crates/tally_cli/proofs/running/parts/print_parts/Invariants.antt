use Rattle.std.proofs.Common.{Ok, take}
use Rattle.std.specs.List.{flat_map}
use Rattle.tally_print.specs.Output.{Prints}
use Rattle.tally_print.specs.declared.output.PrintFault.{PrintFault}
use Rattle.tally_cli.specs.Apart.{apart_of, names_given}
use Rattle.tally_cli.specs.inside.Parts.{part_text}
use Rattle.tally_cli.proofs.running.parts.print_parts.Given as goal

-- the parts before this one were printed
abbrev pub invariant-loop-part : goal.invariant-loop-part
invariant-loop-part g l =
    Prints {E = PrintFault} (g.O.Output.state l.initial.out) (g.O.Output.state l.out) (Ok tt) 0
    (flat_map (part_text l.clock l.job (names_given l.names) (apart_of l.apart)) (take l.part-index l.parts))
