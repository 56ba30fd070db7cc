use Rattle.std.proofs.Common.{◌≡◌, ◌++◌, drop, false}
use Rattle.tally_check_text.specs.SectionText.{type_names, types_after}
use Rattle.tally_check_text.proofs.lines.push_types.Given as goal

-- the line so far, and what the other types will add
abbrev pub invariant-loop-at : goal.invariant-loop-at
invariant-loop-at l =
    l.text.items ++ types_after l.begun (drop l.at l.types) (drop l.at type_names) ≡ l.initial.text.items ++ types_after false l.types type_names
