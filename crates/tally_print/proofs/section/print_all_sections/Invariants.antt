use Rattle.std.proofs.Common.{Ok, ◌∷◌, flat_map, take}
use Rattle.tally_sessions.specs.Days.{local}
use Rattle.tally_print.specs.AnswerText.{answer_text}
use Rattle.tally_print.specs.Output.{Prints}
use Rattle.tally_print.specs.Section.{answer_in}
use Rattle.tally_print.specs.declared.output.PrintFault.{PrintFault}
use Rattle.tally_print.proofs.section.print_all_sections.Given as goal

-- the sections before this one were printed
abbrev pub invariant-loop-section : goal.invariant-loop-section
invariant-loop-section g l =
    Prints {E = PrintFault} (g.O.Output.state l.initial.out) (g.O.Output.state l.out) (Ok tt) 0
    (flat_map (λ section. 10 ∷ answer_text (answer_in l.sessions.entries section) (local l.clock l.offset) l.fn.until) (take l.section-index l.others))
