use Rattle.std.proofs.Common.{Ok, ◌++◌, flat_map, take}
use Rattle.std.specs.List.{range_with_len}
use Rattle.tally_sessions.specs.Lent.{entries_in}
use Rattle.tally_attempts.specs.Attempts.{latest_attempts}
use Rattle.tally_print.specs.declared.output.PrintFault.{PrintFault}
use Rattle.tally_print.specs.inside.Pages.{Fills}
use Rattle.tally_print.proofs.all_attempts.put_hosts.Given as goal

-- the lines of the hosts before this one went out or stand on the page
abbrev pub invariant-loop-host : goal.invariant-loop-host
invariant-loop-host g l =
    Fills {E = PrintFault} (g.O.Output.state l.initial.out) (g.O.Output.state l.out) (Ok tt) 0 l.page.items
    (l.initial.page.items ++ flat_map (λ host. flat_map (g.L.Line.text l.line) (latest_attempts host l.fn.limit l.choice (entries_in l.entries))) (take l.host (range_with_len 0 l.fn.hosts)))
