-- The columns of a file, which stand before the others of a row.
use Rattle.std.specs.Prelude.{ℕ, Bool, List, [], ◌∷◌, ◌++◌, codes, decimal, map, Option, Some, None, option_map}
use Rattle.std.specs.Borrow.{Bor}
use Rattle.tally_print.specs.Tables.{Row, asked}
use Rattle.tally_print.specs.Text.{shown}
use Rattle.tally_print.specs.declared.file_columns.FileColumns.{FileColumns}

-- the path of a file, as printed, where rows have it
abbrev pub path_column : Option (List ℕ) → Row
path_column None = []
path_column (Some path) = shown path ∷ []

-- the number of a file, and its path
abbrev pub file_columns : ℕ → Option (List ℕ) → Row
file_columns number path = decimal number ∷ path_column path

-- a path that is lent
abbrev pub path_lent : Option (Bor (List ℕ)) → Option (List ℕ)
path_lent lent = option_map (λ path. path.now) lent

abbrev pub columns_of : FileColumns → Row
columns_of file = file_columns file.number (path_lent file.path)

-- the names of these columns, with that of the path where it is asked for
abbrev pub file_names : Bool → Row
file_names paths = codes "file" ∷ asked paths (codes "path")

-- a row for each: the columns of a file, and then its own fields
abbrev pub rows_after : {X : Type 0} → Row → (X → Row) → List X → List Row
rows_after columns fields rows = map (λ row. columns ++ fields row) rows
