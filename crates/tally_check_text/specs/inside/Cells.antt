-- Fields of numbers and moments.
use Rattle.std.specs.Prelude.{ℕ, ℤ, List, [], Option, Some, None, decimal}
use Rattle.std.specs.Fmt.{signed_decimal}
use Rattle.tally_check_text.specs.Moments.{iso_moment}
use Rattle.tally_check_text.specs.declared.cells.Cell.{Cell}
use Rattle.tally_check_text.specs.declared.cells.Cell.TheVariants.{At, Count, Nothing, Second}

-- the field of a cell, with moments by a clock
abbrev pub cell_text : (ℤ → ℤ) → Cell → List ℕ
cell_text clock Nothing = []
cell_text clock (Count n) = decimal n
cell_text clock (Second time) = signed_decimal time
cell_text clock (At time) = iso_moment clock time

-- the place of a record, where there is one
abbrev pub place_cell : Option ℕ → Cell
place_cell None = Nothing
place_cell (Some place) = Count place
