use Rattle.std.proofs.Common.{Ok, ◌++◌, flat_map, take}
use Rattle.std.specs.List.{range_with_len}
use Rattle.tally_sessions.specs.Lent.{entries_in}
use Rattle.tally_print.specs.inside.Attempts.{section}
use Rattle.tally_print.specs.inside.LocalTime.{clock_of}
use Rattle.tally_print.specs.declared.output.PrintFault.{PrintFault}
use Rattle.tally_print.specs.inside.Pages.{Fills}
use Rattle.tally_print.proofs.all_attempts.put_sections.Given as goal

-- the sections of the hosts before this one went out or stand on the page
abbrev pub invariant-loop-host : goal.invariant-loop-host
invariant-loop-host g l =
    Fills {E = PrintFault} (g.O.Output.state l.initial.out) (g.O.Output.state l.out) (Ok tt) 0 l.page.items
    (l.initial.page.items ++ flat_map (section (clock_of l.line.local) l.fn.limit l.choice (entries_in l.entries)) (take l.host (range_with_len 0 l.fn.hosts)))
