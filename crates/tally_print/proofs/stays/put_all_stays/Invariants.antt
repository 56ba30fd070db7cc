use Rattle.std.proofs.Common.{Ok, ◌++◌, flat_map, reverse, take}
use Rattle.tally_sessions.specs.Totals.{limited, stays_of}
use Rattle.tally_print.specs.declared.output.PrintFault.{PrintFault}
use Rattle.tally_print.specs.inside.Pages.{Fills}
use Rattle.tally_print.proofs.stays.put_all_stays.Given as goal

-- the lines of the stays before this one went out or stand on the page
abbrev pub invariant-loop-place : goal.invariant-loop-place
invariant-loop-place g l =
    Fills {E = PrintFault} (g.O.Output.state l.initial.out) (g.O.Output.state l.out) (Ok tt) 0 l.page.items
    (l.initial.page.items ++ flat_map (g.L.Line.text l.line) (take l.place (limited l.fn.limit (reverse (stays_of l.host l.sessions.entries l.fn.until)))))
