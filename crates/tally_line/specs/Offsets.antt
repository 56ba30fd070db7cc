-- Offsets from UTC, as words write them.
use Rattle.std.specs.Prelude.{◌≡◌, ◌≢◌, ◌≤◌, List, Some, codes, length, slice_index}
use Rattle.clap.specs.Walk.{first_of}
use Rattle.clap.specs.Words.{Row, Text}

-- a number without a sign and without a leading zero
pub record IsPlain (text : Text) : Type 0 where
  pub no_plus : slice_index text 0 ≢ 43
  pub no_minus : slice_index text 0 ≢ 45
  pub no_zero : slice_index text 0 ≡ 48 → length text ≤ 1

-- the value of an option is a plain number
abbrev pub IsPlainIn : Text → List Row → Type 0
IsPlainIn id rows = (text : Text) → first_of id rows ≡ Some text → IsPlain text

-- minutes east and minutes west are plain numbers
abbrev pub HasPlainOffsets : List Row → Type 0
HasPlainOffsets rows = IsPlainIn (codes "east") rows × IsPlainIn (codes "west") rows
