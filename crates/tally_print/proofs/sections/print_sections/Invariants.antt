use Rattle.std.proofs.Common.{Ok, ◌∷◌, flat_map, take}
use Rattle.tally_sessions.specs.Days.{local}
use Rattle.tally_print.specs.AnswerText.{answer_text}
use Rattle.tally_print.specs.Output.{Prints}
use Rattle.tally_print.specs.declared.output.PrintFault.{PrintFault}
use Rattle.tally_print.proofs.sections.print_sections.Given as goal

-- the answers before this one were printed
abbrev pub invariant-loop-answer : goal.invariant-loop-answer
invariant-loop-answer g l =
    Prints {E = PrintFault} (g.O.Output.state l.initial.out) (g.O.Output.state l.out) (Ok tt) 0
    (flat_map (λ answer. 10 ∷ answer_text answer (local l.clock l.offset) l.fn.until) (take l.answer-index l.others))
