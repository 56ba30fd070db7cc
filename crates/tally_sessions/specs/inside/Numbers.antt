-- What is seen of a table by names.
use Rattle.std.specs.Prelude.{◌≡◌, List, ℕ, Some, slice_get}
use Rattle.std.specs.Map.{keys_of}

-- the names with their numbers, in the order in which they came, and for how many more there is room
pub record Numbers : Type 0 where
  pub entries : List (List ℕ × ℕ)
  pub spare : ℕ

-- a name stands at a place of the table
abbrev pub StandsAt : Numbers → ℕ → List ℕ → Type 0
StandsAt table place name = slice_get (keys_of table.entries) place ≡ Some name
