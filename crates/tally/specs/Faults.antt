-- Which file a fault of opening names, and which faults are of a file of other records.
use Rattle.std.specs.Prelude.{◌≡◌, ℕ, Bool, true, false, List}
use Rattle.tally_desk.specs.declared.fault.FeedFault.{FeedFault}
use Rattle.tally_desk.specs.declared.fault.FeedFault.TheVariants.{Bad}
use Rattle.tally_records.specs.declared.fault.RecordFault.TheVariants.{OtherLogin}
use Rattle.tally.specs.declared.opening.OpenFault.{OpenFault}
use Rattle.tally.specs.declared.opening.OpenFault.TheVariants.{Memory, NotOpened, Database}

-- the file of this path could not be opened, or is a database without login records
abbrev pub NamesPath : List ℕ → OpenFault → Type 0
NamesPath word Memory = ⊥
NamesPath word (NotOpened path) = word ≡ path.now
NamesPath word (Database path fault) = word ≡ path.now

-- a record is of a type that no failed login has
abbrev pub is_other_login : FeedFault → Bool
is_other_login (Bad at (OtherLogin kind)) = true
is_other_login fault = false
