use Rattle.std.proofs.Common.{◌≡◌, ◌++◌, drop}
use Rattle.tally_print.specs.Text.{shown}
use Rattle.tally_check_text.proofs.paths.push_shown.Given as goal

-- the text so far, and what the rest of the field will add
abbrev pub invariant-loop-byte : goal.invariant-loop-byte
invariant-loop-byte l = l.text.items ++ shown (drop l.byte-index l.field) ≡ l.initial.text.items ++ shown l.field
