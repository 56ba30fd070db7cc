-- What a batch holds, and the batch that bytes stand for.
use Rattle.std.specs.Prelude.{ℕ, ◌<◌, ◌/◌, ◌%◌, ◌≡◌, List, [], length, Option, None, Result, Ok, Err, slice_get, nat_lt, ◌==◌, if◌then◌else◌}
use Rattle.std.specs.Simd.{first_chunks}
use Rattle.tally_records.specs.declared.batch.TheConstants.{BATCH_LIMIT}
use Rattle.tally_records.specs.declared.login.LoginRecord.{LoginRecord}
use Rattle.tally_records.specs.declared.fault.BatchFault.{BatchFault}
use Rattle.tally_records.specs.declared.fault.BatchFault.TheVariants.{Memory, Length, TooMany, Bad}
use Rattle.tally_records.specs.declared.batch.Kind.{Kind}
use Rattle.tally_records.specs.declared.batch.Kind.TheVariants.{Login, Proc}
use Rattle.tally_records.specs.Decoding.{decoded}
use Rattle.tally_records.specs.FailedLogin.{failed_result}
use Rattle.tally_records.specs.LoginRecord.{login_result}
use Rattle.tally_records.specs.ProcRecord.{proc_result}
use Rattle.tally_records.specs.declared.fault.RecordFault.{RecordFault}
use Rattle.tally_records.specs.declared.process.ProcRecord.{ProcRecord}

-- what a batch is seen as: records of one kind
pub data Records : Type 0 where
  Logins : List LoginRecord → Records
  Procs : List ProcRecord → Records

-- the kind of the records
abbrev pub kind_of : Records → Kind
kind_of (Logins records) = Login
kind_of (Procs records) = Proc

-- they are login records
abbrev pub IsLogins : Records → Type 0
IsLogins records = kind_of records ≡ Login

-- they are process records
abbrev pub IsProcs : Records → Type 0
IsProcs records = kind_of records ≡ Proc

-- how many records
abbrev pub record_count : Records → ℕ
record_count (Logins records) = length records
record_count (Procs records) = length records

-- the login records that it holds
abbrev pub logins_in : Records → List LoginRecord
logins_in (Logins records) = records
logins_in (Procs records) = []

-- the process records that it holds
abbrev pub procs_in : Records → List ProcRecord
procs_in (Logins records) = []
procs_in (Procs records) = records

-- the login record at a place
abbrev pub login_at : Records → ℕ → Option LoginRecord
login_at (Logins records) index = slice_get records index
login_at (Procs records) index = None

-- the process record at a place
abbrev pub proc_at : Records → ℕ → Option ProcRecord
proc_at (Logins records) index = None
proc_at (Procs records) index = slice_get records index

-- records as a batch
abbrev pub as_batch : {R : Type 0} → (List R → Records) → Result (List R) BatchFault → Result Records BatchFault
as_batch batch (Ok records) = Ok (batch records)
as_batch batch (Err fault) = Err fault

-- the batch of records of one size that the bytes stand for, or why there is none
abbrev pub batch_of : {R : Type 0} → (List R → Records) → (List ℕ → Result R RecordFault) → ℕ → List ℕ → Result Records BatchFault
batch_of batch read size bytes =
    if length bytes % size == 0 then (
    if nat_lt BATCH_LIMIT (length bytes / size) then Err (TooMany (length bytes / size))
    else as_batch batch (decoded read 0 (first_chunks size (length bytes / size) bytes)))
    else Err (Length (length bytes))

-- the batch of login records that the bytes stand for, or why there is none
abbrev pub logins_of : List ℕ → Result Records BatchFault
logins_of bytes = batch_of Logins login_result 384 bytes

-- the batch of failed logins that the bytes stand for, or why there is none
abbrev pub failed_logins_of : List ℕ → Result Records BatchFault
failed_logins_of bytes = batch_of Logins failed_result 384 bytes

-- the batch of process records that the bytes stand for, or why there is none
abbrev pub procs_of : List ℕ → Result Records BatchFault
procs_of bytes = batch_of Procs proc_result 64 bytes

-- want of memory comes after a wrong length, and before a bad record
abbrev pub MayLackMemory : Result Records BatchFault → Type 0
MayLackMemory (Ok records) = Unit {0}
MayLackMemory (Err Memory) = Unit {0}
MayLackMemory (Err (Length n)) = ⊥
MayLackMemory (Err (TooMany n)) = ⊥
MayLackMemory (Err (Bad index fault)) = Unit {0}

-- an answer is the outcome itself, or want of memory where that may come
abbrev pub IsAnswer : Result Records BatchFault → Result Records BatchFault → Type 0
IsAnswer (Err Memory) outcome = MayLackMemory outcome
IsAnswer (Err (Length n)) outcome = outcome ≡ Err (Length n)
IsAnswer (Err (TooMany n)) outcome = outcome ≡ Err (TooMany n)
IsAnswer (Err (Bad index fault)) outcome = outcome ≡ Err (Bad index fault)
IsAnswer (Ok records) outcome = outcome ≡ Ok records

-- a bad record is one of the first so many
abbrev pub NamesRecordBelow : ℕ → BatchFault → Type 0
NamesRecordBelow count Memory = Unit {0}
NamesRecordBelow count (Length n) = Unit {0}
NamesRecordBelow count (TooMany n) = Unit {0}
NamesRecordBelow count (Bad index fault) = index < count
