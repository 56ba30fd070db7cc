-- A table as CSV (RFC 4180): rows of fields, of which the first names the columns.
use Rattle.std.specs.Prelude.{ℕ, Bool, true, false, List, [], ◌∷◌, ◌-◌, flat_map, get_or, length}
use Rattle.std.specs.Str.Parse.{digits_value}
use Rattle.csv.specs.Reading.{default_config, records, strip_bom}
use Rattle.csv.specs.Writing.{default_writer, row_text}

-- a row is a list of fields, a field a list of bytes
abbrev pub Row : Type 0
Row = List (List ℕ)

-- the text of rows: commas between fields, a line feed after each row, a field with a mark of the format in quotes
abbrev pub csv_text : List Row → List ℕ
csv_text rows = flat_map (row_text default_writer) rows

-- a field that a row has only where it is asked for
abbrev pub asked : Bool → List ℕ → Row
asked true field = field ∷ []
asked false field = []

-- what the crate `csv` reads from a text, by its defaults, a byte order mark taken off
abbrev pub csv_rows : List ℕ → List Row
csv_rows text = records default_config (strip_bom text)

-- the number that the last field of a row says
abbrev pub last_number : Row → ℕ
last_number row = digits_value 10 (get_or row (length row - 1) [])
