-- What a contract sees of a reader that is an input.
use Rattle.std.specs.Prelude.{ℕ}

-- the reader, and how often it has failed
pub record ReadingState (R : Type 0) : Type 0 where
  pub reader : R
  pub failures : ℕ
