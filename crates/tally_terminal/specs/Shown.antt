-- A word of the command line in a fault line, and a path in a command that a hint names.
use Rattle.std.specs.Prelude.{ℕ, Bool, List, map, nat_le, ◌==◌, ◌&&◌, ◌||◌}
use Rattle.tally_print.specs.Text.{shown_byte}
use Rattle.tally_terminal.specs.declared.shown.ErrorsTo.{ErrorsTo}
use Rattle.tally_terminal.specs.declared.shown.ErrorsTo.TheVariants.{Terminal, Elsewhere}

-- as given, but for a terminal with `?` for each byte that does not print
abbrev pub shown_word : ErrorsTo → List ℕ → List ℕ
shown_word Terminal word = map shown_byte word
shown_word Elsewhere word = word

-- a byte that means nothing to a shell: a letter, a digit, one of %+,-./ or one of :@_
abbrev pub is_plain_byte : ℕ → Bool
is_plain_byte byte =
    (nat_le 97 byte && nat_le byte 122) || ((nat_le 65 byte && nat_le byte 90) || ((nat_le 48 byte && nat_le byte 58)
    || ((byte == 37) || ((nat_le 43 byte && nat_le byte 47) || ((byte == 64) || (byte == 95))))))
