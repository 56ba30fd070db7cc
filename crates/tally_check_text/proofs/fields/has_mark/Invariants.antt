use Rattle.std.proofs.Common.{◌≡◌, drop}
use Rattle.csv.specs.Writing.{default_writer, needs_quotes}
use Rattle.tally_print.specs.Text.{shown}
use Rattle.tally_check_text.proofs.fields.has_mark.Given as goal

-- no mark so far: the rest decides
abbrev pub invariant-loop-byte : goal.invariant-loop-byte
invariant-loop-byte l = needs_quotes default_writer (shown (drop l.byte-index l.field)) ≡ needs_quotes default_writer (shown l.field)
