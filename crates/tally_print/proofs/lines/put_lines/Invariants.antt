use Rattle.std.proofs.Common.{Ok, ◌++◌, flat_map, take}
use Rattle.tally_print.specs.declared.output.PrintFault.{PrintFault}
use Rattle.tally_print.specs.inside.Pages.{Fills}
use Rattle.tally_print.proofs.lines.put_lines.Given as goal

-- the lines of the rows before this one went out or stand on the page
abbrev pub invariant-loop-row : goal.invariant-loop-row
invariant-loop-row g l =
    Fills {E = PrintFault} (g.O.Output.state l.initial.out) (g.O.Output.state l.out) (Ok tt) 0 l.page.items
    (l.initial.page.items ++ flat_map (g.L.Line.text l.line) (take l.row-index l.rows))
