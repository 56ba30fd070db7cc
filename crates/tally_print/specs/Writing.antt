-- What a contract sees of a writer that is an output.
use Rattle.std.specs.Prelude.{ℕ}

-- the writer, and how often it has failed
pub record WritingState (W : Type 0) : Type 0 where
  pub writer : W
  pub failures : ℕ
