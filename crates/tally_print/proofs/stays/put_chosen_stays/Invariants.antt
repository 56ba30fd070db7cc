use Rattle.std.proofs.Common.{Ok, ◌≡◌, ◌++◌, drop, filter, flat_map, take}
use Rattle.tally_sessions.specs.Choice.{is_shown}
use Rattle.tally_sessions.specs.Totals.{limited}
use Rattle.tally_print.specs.declared.output.PrintFault.{PrintFault}
use Rattle.tally_print.specs.inside.Pages.{Fills}
use Rattle.tally_print.specs.inside.Stays.{chosen_back, latest_back}
use Rattle.tally_print.proofs.stays.put_chosen_stays.Given as goal

-- the lines of so many chosen stays went out or stand on the page, and the others are those from a place on
abbrev pub invariant-loop-shown : goal.invariant-loop-shown
invariant-loop-shown g l =
    Fills {E = PrintFault} (g.O.Output.state l.initial.out) (g.O.Output.state l.out) (Ok tt) 0 l.page.items
    (l.initial.page.items ++ flat_map (g.L.Line.text l.line) (take l._shown (limited l.fn.limit (chosen_back l.host l.choice l.sessions.entries l.fn.until))))
    × (drop l._shown (chosen_back l.host l.choice l.sessions.entries l.fn.until) ≡ filter (is_shown l.choice l.fn.until) (drop l.from (latest_back l.host l.sessions.entries l.fn.until)))
