-- A text of which the last part stands on a page.
use Rattle.std.specs.Prelude.{◌≡◌, ℕ, ◌+◌, IsTrue, List, ◌++◌, Result, OnOk}
use Rattle.tally_print.specs.Output.{AppendsPrefix, OutputNow}

-- a text went out but for what is left on the page at `Ok`, a first part of it at a fault, and so many calls of the output failed
pub record Fills {E : Type 0} (old new : OutputNow) (result : Result (Unit {0}) E) (failed : ℕ) (page text : List ℕ) : Type 0 where
  pub prefix : IsTrue old.tells → AppendsPrefix old.written new.written text
  pub ok : OnOk result (IsTrue old.tells → new.written ++ page ≡ old.written ++ text)
  pub counts : new.failures ≡ old.failures + failed
  pub tells : new.tells ≡ old.tells
