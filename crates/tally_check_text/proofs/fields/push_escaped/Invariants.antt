use Rattle.std.proofs.Common.{◌≡◌, ◌++◌, drop}
use Rattle.csv.specs.Writing.{default_writer, escaped}
use Rattle.tally_print.specs.Text.{shown}
use Rattle.tally_check_text.proofs.fields.push_escaped.Given as goal

-- the line so far, and what the rest of the field will add
abbrev pub invariant-loop-byte : goal.invariant-loop-byte
invariant-loop-byte l =
    l.text.items ++ escaped default_writer (shown (drop l.byte-index l.field)) ≡ l.initial.text.items ++ escaped default_writer (shown l.field)
