-- A table with the paths of files.
use Rattle.std.specs.Prelude.{ℕ, ℤ, [], List, get_or}
use Rattle.tally_print.specs.PathTable.{path_rows}
use Rattle.tally_print.specs.Section.{answer_in}
use Rattle.tally_print.specs.Tables.{csv_text}
use Rattle.tally_print.specs.declared.report_table.Table.{Table}
use Rattle.tally_print.specs.declared.section.Section.{Section}
use Rattle.tally_sessions.specs.declared.entry.Entry.{Entry}

-- the rows of a section, each with the path of the file at the section's place
abbrev pub section_text : Table → (ℤ → ℤ) → List (List ℕ) → List Entry → ℕ × Section → List ℕ
section_text table clock paths entries numbered = csv_text (path_rows table clock (get_or paths numbered.0 []) (answer_in entries numbered.1))
