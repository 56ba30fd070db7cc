-- What is seen of stored login entries.
use Rattle.std.specs.Prelude.{ℕ, Bool, List}
use Rattle.tally_sessions.specs.declared.entry.Entry.{Entry}

-- how many hosts there are, the entries in stored order, and whether their sessions are kept
pub record LoginState : Type 0 where
  pub hosts : ℕ
  pub entries : List Entry
  pub is_counted : Bool
