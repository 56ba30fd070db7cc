use Rattle.std.proofs.Common.{◌≡◌, ℕ, List, ◌++◌, length, Ok}
use Rattle.tally_print.specs.Output.{Prints}
use Rattle.tally_print.specs.declared.output.PrintFault.{PrintFault}
use Rattle.tally_check_text.proofs.print.print_text.Given as goal

-- a first part of the bytes was written, and `rest` is left
abbrev pub invariant-loop-rest : goal.invariant-loop-rest
invariant-loop-rest g l =
    (front : List ℕ) × (l.text ≡ front ++ l.rest) × Prints {E = PrintFault} (g.O.Output.state l.initial.out) (g.O.Output.state l.out) (Ok tt) 0 front

abbrev pub decreases-loop-rest : goal.decreases-loop-rest
decreases-loop-rest g l = length l.rest
