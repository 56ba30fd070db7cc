-- Why rows, and the files that hold them, have no login records.
use Rattle.std.specs.Prelude.{◌≡◌, ℕ, ◌<◌, List, length, Some, ⊤}
use Rattle.sqlite_value.specs.Order.{Row}
use Rattle.tally_wtmpdb.specs.Moments.{moments}
use Rattle.tally_wtmpdb.specs.Made.{AreBytesOfMade}
use Rattle.tally_wtmpdb.specs.Rows.{first_fault}
use Rattle.tally_wtmpdb.specs.Table.{AreUnsound, HaveNoDatabase, HaveNoTable, IsTableOf}
use Rattle.tally_wtmpdb.specs.declared.database.ReadError.{ReadError}
use Rattle.tally_wtmpdb.specs.declared.database.ReadError.TheVariants as read
use Rattle.tally_wtmpdb.specs.declared.fault.WtmpdbFault.{WtmpdbFault}
use Rattle.tally_wtmpdb.specs.declared.fault.WtmpdbFault.TheVariants.{Memory, NoDatabase, NoTable, Unsound, BadRow, TooMany}

-- the first row's fault, or more moments than the limit; want of memory may come at any time, and a fault of the database never
abbrev pub IsCause : List Row → ℕ → WtmpdbFault → Type 0
IsCause rows limit Memory = ⊤
IsCause rows limit NoDatabase = ⊥
IsCause rows limit NoTable = ⊥
IsCause rows limit Unsound = ⊥
IsCause rows limit (BadRow fault) = first_fault rows ≡ Some fault
IsCause rows limit (TooMany count) = (count ≡ length (moments rows)) × (limit < count)

-- the bytes are those of the login records that are made of the table in these files
pub record AreLoginsOf (log db bytes : List ℕ) : Type 0 where
  pub rows : List Row
  pub table : IsTableOf log db rows
  pub made : AreBytesOfMade rows bytes

-- the table in the files has rows of which no login records are made, for this reason
pub record HasFault (log db : List ℕ) (limit : ℕ) (fault : WtmpdbFault) : Type 0 where
  pub rows : List Row
  pub table : IsTableOf log db rows
  pub cause : IsCause rows limit fault

-- why the rows of the table were not read; memory may be wanting at any time
abbrev pub IsReadCause : List ℕ → List ℕ → ReadError → Type 0
IsReadCause log db read.OutOfMemory = ⊤
IsReadCause log db read.NoDatabase = HaveNoDatabase log db
IsReadCause log db read.NoTable = HaveNoTable log db
IsReadCause log db read.Unsound = AreUnsound log db

-- the rows were not read, or have a fault
abbrev pub IsCauseIn : List ℕ → List ℕ → ℕ → WtmpdbFault → Type 0
IsCauseIn log db limit Memory = ⊤
IsCauseIn log db limit NoDatabase = HaveNoDatabase log db
IsCauseIn log db limit NoTable = HaveNoTable log db
IsCauseIn log db limit Unsound = AreUnsound log db
IsCauseIn log db limit (BadRow fault) = HasFault log db limit (BadRow fault)
IsCauseIn log db limit (TooMany count) = HasFault log db limit (TooMany count)

-- why files whose rows were not read have no login records
abbrev pub as_fault : ReadError → WtmpdbFault
as_fault read.OutOfMemory = Memory
as_fault read.NoDatabase = NoDatabase
as_fault read.NoTable = NoTable
as_fault read.Unsound = Unsound
