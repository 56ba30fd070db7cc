use Rattle.std.proofs.Common.{Ok, ◌≡◌, ◌++◌, drop, flat_map, take}
use Rattle.tally_attempts.specs.Attempts.{attempts_before, attempts_of, latest_attempts}
use Rattle.tally_sessions.specs.Lent.{entries_in}
use Rattle.tally_print.specs.declared.output.PrintFault.{PrintFault}
use Rattle.tally_print.specs.inside.Pages.{Fills}
use Rattle.tally_print.proofs.all_attempts.put_attempts.Given as goal

-- the lines of so many went out or stand on the page, and the others are those before a place
abbrev pub invariant-loop-shown : goal.invariant-loop-shown
invariant-loop-shown g l =
    Fills {E = PrintFault} (g.O.Output.state l.initial.out) (g.O.Output.state l.out) (Ok tt) 0 l.page.items
    (l.initial.page.items ++ flat_map (g.L.Line.text l.line) (take l._shown (latest_attempts l.host l.fn.limit l.choice (entries_in l.entries))))
    × (drop l._shown (attempts_of l.host l.choice (entries_in l.entries)) ≡ attempts_before l.host l.choice l.before (entries_in l.entries))
