-- The bytes that a file of the command line has left.
use Rattle.std.specs.Io.Cursor.{cursor_remaining}
use Rattle.std.specs.Prelude.{ℕ, List, Option, Some}
use Rattle.tally.specs.declared.opened.Opened.{Opened}
use Rattle.tally.specs.declared.opened.Opened.TheVariants.{File, Standard, Made}

-- those of the file that was opened, of standard input, or of the login records that were made of a database
abbrev pub bytes_left : {F S : Type 0} → (F → Option (List ℕ)) → (S → Option (List ℕ)) → Opened F S → Option (List ℕ)
bytes_left of_file of_input (File file) = of_file file
bytes_left of_file of_input (Standard input) = of_input input
bytes_left of_file of_input (Made records) = cursor_remaining (λ v. Some v.items) records
