-- What is seen of a list of kept entries.
use Rattle.std.specs.Prelude.{ℕ, List}
use Rattle.tally_usage.specs.declared.entry.CompactProc.{CompactProc}

-- the entries in order, and for how many more there is room
pub record Kept : Type 0 where
  pub entries : List CompactProc
  pub spare : ℕ
