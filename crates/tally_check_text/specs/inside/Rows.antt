-- Fields of a row that others follow.
use Rattle.std.specs.Prelude.{ℕ, List, [], ◌∷◌, ◌++◌, flat_map}
use Rattle.csv.specs.Writing.{default_writer, field_text}
use Rattle.tally_print.specs.Tables.{Row}

-- the text of a field, and the mark after it
abbrev pub before : List ℕ → List ℕ
before field = field_text default_writer field ++ 44 ∷ []

-- the text of fields that others follow
abbrev pub before_last : Row → List ℕ
before_last fields = flat_map before fields
