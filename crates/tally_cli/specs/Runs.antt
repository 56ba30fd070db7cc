-- What is known when a run ends.
use Rattle.std.specs.Prelude.{◌≡◌, ◌⊎◌, ◌*◌, ◌+◌, ◌++◌, ◌<◌, ◌≤◌, ℕ, Bool, true, IsTrue, List, Option, None, Some, Result, Ok, Err, ⊤, length, map, min, slice_index_or, sum_by, ◌-◌, ◌^◌}
use Rattle.std.specs.List.{All}
use Rattle.tally_book.specs.Rooms.{batches_in}
use Rattle.tally_book.specs.declared.room.TheConstants.{MILLION}
use Rattle.tally_clock.specs.Rows.{ClockRows}
use Rattle.tally_desk.specs.Batches.{records_in, stored_kind}
use Rattle.tally_desk.specs.Blocks.{feed_fault}
use Rattle.tally_desk.specs.Feeds.{good_batches}
use Rattle.tally_desk.specs.declared.fault.FeedFault.{FeedFault}
use Rattle.tally_print.specs.Output.{AppendsPrefix, OutputNow}
use Rattle.tally_print.specs.declared.output.PrintFault.{PrintFault}
use Rattle.tally_records.specs.Records.{Records, logins_in, procs_in}
use Rattle.tally_records.specs.declared.batch.TheConstants.{BATCH_LIMIT}
use Rattle.tally_records.specs.declared.batch.Kind.{Kind}
use Rattle.tally_records.specs.declared.batch.Kind.TheVariants.{Login, Proc}
use Rattle.tally_cli.specs.Apart.{Apart, output_apart}
use Rattle.tally_cli.specs.declared.fault.RunFault.{RunFault}
use Rattle.tally_cli.specs.declared.fault.RunFault.TheVariants.{Memory, Callers, File, Asker, Write}
use Rattle.tally_line.specs.declared.job.Job.{Job}
use Rattle.tally_cli.specs.declared.running.source.Source.{Source}
use Rattle.tally_book.specs.declared.fault.AskFault.TheVariants as ask
use Rattle.tally_desk.specs.declared.fault.FeedFault.TheVariants as feed
use Rattle.tally_print.specs.declared.output.PrintFault.TheVariants as print
use Rattle.tally_sessions.specs.declared.sessions.TheConstants as sessions

-- an input that tells its bytes, and what kind of records they are
pub record Told : Type 0 where
  pub kind : Kind
  pub bytes : List ℕ

-- a source tells this
pub record TellsAt {I : Type 0} (to_come : I → Option (List ℕ)) (source : Source I) (input : Told) : Type 0 where
  pub kind : source.kind ≡ input.kind
  pub bytes : to_come source.input ≡ Some input.bytes

-- the sources tell these
abbrev pub Tell : {I : Type 0} → (I → Option (List ℕ)) → List (Source I) → List Told → Type 0
Tell to_come sources inputs = (length inputs ≡ length sources)
    × ((k : ℕ) (s : Source _) (i : Told) → k < length sources → TellsAt to_come (slice_index_or sources k s) (slice_index_or inputs k i))

-- an input's failures can be counted once more
abbrev pub IsReadable : {I : Type 0} → (I → ℕ) → Source I → Type 0
IsReadable failures source = failures source.input < 2 ^ 64 - 1

-- how many records of each kind a run of a job has room for, in a file and in all files
abbrev pub room_of : Job → ℕ
room_of job = MILLION * job.millions

-- the first fault of an input, where there is room for so many records
abbrev pub fault_of : ℕ → Told → Option FeedFault
fault_of room input = feed_fault (batches_in room) input.kind input.bytes

-- an input has no fault
abbrev pub IsGood : ℕ → Told → Type 0
IsGood room input = fault_of room input ≡ None

-- the records of an input
abbrev pub records_told : Told → Records
records_told input = records_in input.kind input.bytes

-- the output of a job over what its sources tell, in the time of a clock, told apart as they are to be
abbrev pub output_told : ClockRows → Apart → Job → List Told → List ℕ
output_told clock apart job inputs = output_apart clock apart job (map (λ i. i.kind) inputs) (map records_told inputs)

-- how many login records the good blocks of the inputs hold
abbrev pub good_logins : ℕ → List Told → ℕ
good_logins room inputs = sum_by (λ i. sum_by (λ b. length (logins_in b)) (good_batches (batches_in room) i.kind i.bytes)) inputs

-- how many process records the good blocks of the inputs hold
abbrev pub good_procs : ℕ → List Told → ℕ
good_procs room inputs = sum_by (λ i. sum_by (λ b. length (procs_in b)) (good_batches (batches_in room) i.kind i.bytes)) inputs

-- why a source is at fault: a fault of its own is its first, a full list comes of all good blocks together
abbrev pub IsFileCause : ℕ → List Told → Told → FeedFault → Type 0
IsFileCause room inputs input feed.Memory = ⊤
IsFileCause room inputs input feed.Read = ⊤
IsFileCause room inputs input (feed.LoginsFull stored) = room < good_logins room inputs
IsFileCause room inputs input (feed.ProcsFull stored) = room < good_procs room inputs
IsFileCause room inputs input feed.CallsFull = ⊥
IsFileCause room inputs input fault = fault_of room input ≡ Some fault

-- the source with this number is the first at fault
pub record IsFirstFault (room : ℕ) (inputs : List Told) (host : ℕ) (fault : FeedFault) : Type 0 where
  pub near : host < length inputs
  pub earlier : (k : ℕ) (i : Told) → k < host → IsGood room (slice_index_or inputs k i)
  pub own : (i : Told) → IsFileCause room inputs (slice_index_or inputs host i) fault

-- nothing was written, where the output tells
abbrev pub IsUnwritten : OutputNow → OutputNow → Type 0
IsUnwritten old new = IsTrue old.tells → new.written ≡ old.written

-- a fault before the first report left the output unwritten
abbrev pub IsUnwrittenBefore : OutputNow → OutputNow → RunFault → Type 0
IsUnwrittenBefore old new Memory = ⊤
IsUnwrittenBefore old new (Callers count) = IsUnwritten old new
IsUnwrittenBefore old new (File host fault) = IsUnwritten old new
IsUnwrittenBefore old new (Asker caller fault) = IsUnwritten old new
IsUnwrittenBefore old new Write = ⊤

-- what a fault shows of the sources
abbrev pub IsCause : ℕ → List Told → OutputNow → OutputNow → RunFault → Type 0
IsCause room inputs old new Memory = IsUnwritten old new ⊎ All (IsGood room) inputs
IsCause room inputs old new (Callers count) = ⊤
IsCause room inputs old new (File host fault) = IsFirstFault room inputs host fault
IsCause room inputs old new (Asker caller fault) = All (IsGood room) inputs
IsCause room inputs old new Write = All (IsGood room) inputs

-- so many callers are refused: there are none, or more than a desk has passes
abbrev pub IsWrongNumber : ℕ → Type 0
IsWrongNumber callers = (callers ≡ 0) ⊎ (sessions.HOST_LIMIT < callers)

-- their fault names their number, as far as 32 bits hold it
abbrev pub callers_fault : ℕ → RunFault
callers_fault callers = Callers (min callers 4294967295)

-- so many records are stored that a full batch has no room below a limit
abbrev pub HasNoRoom : ℕ → ℕ → Type 0
HasNoRoom limit stored = (stored ≤ limit) × (limit < stored + BATCH_LIMIT)

-- a full list is that in which the file's records are stored, and names how many it has
abbrev pub IsFullList : {I : Type 0} → ℕ → List (Source I) → RunFault → Type 0
IsFullList room sources (File host (feed.LoginsFull stored)) = HasNoRoom room stored × ((s : Source _) → stored_kind (slice_index_or sources host s).kind ≡ Login)
IsFullList room sources (File host (feed.ProcsFull stored)) = HasNoRoom room stored × ((s : Source _) → (slice_index_or sources host s).kind ≡ Proc)
IsFullList room sources fault = ⊤

-- a number of callers is refused only where it is none or above 128, no file for the number of calls, and an asker for want of memory alone
abbrev pub IsAllowed : ℕ → RunFault → Type 0
IsAllowed callers (Callers count) = (Callers count ≡ callers_fault callers) × IsWrongNumber callers
IsAllowed callers (Asker caller fault) = fault ≡ ask.Memory
IsAllowed callers (File host feed.CallsFull) = ⊥
IsAllowed callers fault = ⊤

-- a fault is one of so many files, or of an asker after them among so many callers
abbrev pub IsNamed : ℕ → ℕ → RunFault → Type 0
IsNamed files callers (File host fault) = host < files
IsNamed files callers (Asker caller fault) = (files ≤ caller) × (caller < callers)
IsNamed files callers fault = ⊤

-- the fault of a run whose printer gave this one
abbrev pub fault_from : PrintFault → RunFault
fault_from print.Memory = Memory
fault_from print.Write = Write

-- how many calls of the output failed where a run ends so
abbrev pub failed_writes : Result (Unit {0}) RunFault → ℕ
failed_writes (Ok done) = 0
failed_writes (Err Write) = 1
failed_writes (Err fault) = 0

-- a whole run over sources that tell their bytes
pub record IsReported (clock : ClockRows) (apart : Apart) (job : Job) (old new : OutputNow) (inputs : List Told) : Type 0 where
  pub good : All (IsGood (room_of job)) inputs
  pub written : IsTrue old.tells → new.written ≡ old.written ++ output_told clock apart job inputs

-- what is so of a run that answers `Ok`, by the output before and after it
pub record IsWholeRun {I : Type 0} (to_come : I → Option (List ℕ)) (clock : ClockRows) (apart : Apart) (job : Job) (sources : List (Source I)) (old new : OutputNow) : Type 0 where
  pub some : 0 < length sources + job.askers
  pub few : length sources + job.askers ≤ sessions.HOST_LIMIT
  pub told : (inputs : List Told) → Tell to_come sources inputs → IsReported clock apart job old new inputs

-- a failed run over sources that tell their bytes
pub record IsCutShort (clock : ClockRows) (apart : Apart) (job : Job) (old new : OutputNow) (fault : RunFault) (inputs : List Told) : Type 0 where
  pub cause : IsCause (room_of job) inputs old new fault
  pub prefix : IsTrue old.tells → AppendsPrefix old.written new.written (output_told clock apart job inputs)

-- what is so of a run that answers a fault: a read failed only where the input can fail
pub record IsFailedRun {I : Type 0} (to_come : I → Option (List ℕ)) (can_fail : I → Bool) (clock : ClockRows) (apart : Apart) (job : Job) (sources : List (Source I)) (old new : OutputNow) (fault : RunFault) : Type 0 where
  pub allowed : IsAllowed (length sources + job.askers) fault
  pub named : IsNamed (length sources) (length sources + job.askers) fault
  pub full : IsFullList (room_of job) sources fault
  pub read : (host : ℕ) → fault ≡ File host feed.Read → (s : Source _) → can_fail (slice_index_or sources host s).input ≡ true
  pub unwritten : IsUnwrittenBefore old new fault
  pub told : (inputs : List Told) → Tell to_come sources inputs → IsCutShort clock apart job old new fault inputs
