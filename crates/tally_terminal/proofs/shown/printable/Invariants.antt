use Rattle.std.specs.Prelude.{◌≡◌, map, string_bytes, take}
use Rattle.tally_print.specs.Text.{shown_byte}
use Rattle.tally_terminal.proofs.shown.printable.Given as goal

abbrev pub invariant-loop-word : goal.invariant-loop-word
invariant-loop-word l =
    map string_bytes l.shown.items ≡ map (λ word. map shown_byte (string_bytes word)) (take l.word-index l.words)
