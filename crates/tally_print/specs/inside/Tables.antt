-- Fields of a row that others follow or stand before.
use Rattle.std.specs.Prelude.{◌≡◌, ℕ, List, [], ◌∷◌, ◌++◌, false, flat_map}
use Rattle.csv.specs.Writing.{default_writer, field_text, is_blank}
use Rattle.tally_print.specs.Tables.{Row}

-- the text of fields that others follow in their row
abbrev pub before_last : Row → List ℕ
before_last fields = flat_map (λ field. field_text default_writer field ++ 44 ∷ []) fields

-- a row whose text is not blank, so that other fields can stand before it
abbrev pub IsWide : Row → Type 0
IsWide fields = is_blank default_writer fields ≡ false
