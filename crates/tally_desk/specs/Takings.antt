-- How much is taken from an input.
use Rattle.std.specs.Prelude.{◌≤◌, ℕ, List, Option, length}
use Rattle.std.specs.Io.KnownBytes.{Consumes}

-- no more than so many of the bytes to come were taken
abbrev pub TakesAtMost : ℕ → Option (List ℕ) → Option (List ℕ) → Type 0
TakesAtMost most before after = (bytes : List ℕ) × Consumes before after bytes × (length bytes ≤ most)
