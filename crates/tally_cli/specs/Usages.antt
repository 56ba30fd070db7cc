-- A run that reports on processes alone: the chosen records of its files are counted, and none is kept.
use Rattle.std.specs.Prelude.{◌≡◌, ◌⊎◌, ◌+◌, ◌++◌, ◌<◌, ◌≤◌, ℕ, Bool, true, IsTrue, List, Option, None, Result, Ok, Err, ⊤, length, min, slice_index_or, sum_by, take}
use Rattle.std.specs.List.{All}
use Rattle.tally_clock.specs.Rows.{ClockRows}
use Rattle.tally_desk.specs.Counting.{IsCountFault, count_fault}
use Rattle.tally_desk.specs.declared.fault.CountFault.{CountFault}
use Rattle.tally_desk.specs.declared.fault.CountFault.TheVariants as count
use Rattle.tally_line.specs.declared.job.Job.{Job}
use Rattle.tally_line.specs.declared.job.Report.{Report}
use Rattle.tally_line.specs.declared.job.Report.TheVariants as report
use Rattle.tally_print.specs.Output.{AppendsPrefix, OutputNow}
use Rattle.tally_print.specs.declared.output.PrintFault.{PrintFault}
use Rattle.tally_print.specs.declared.output.PrintFault.TheVariants as print
use Rattle.tally_records.specs.Records.{procs_in}
use Rattle.tally_records.specs.declared.batch.Kind.TheVariants.{Proc}
use Rattle.tally_records.specs.declared.process.ProcRecord.{ProcRecord}
use Rattle.tally_sessions.specs.declared.sessions.TheConstants as sessions
use Rattle.tally_usage.specs.Choice.{chosen}
use Rattle.tally_usage.specs.declared.choice.ProcChoice.{ProcChoice}
use Rattle.tally_usage.specs.declared.usage.TheConstants.{SUMS_LIMIT}
use Rattle.tally_cli.specs.Runs.{IsUnwritten, IsWrongNumber, Tell, Told, records_told}
use Rattle.tally_cli.specs.UsageOutput.{Wanted, usage_printed}
use Rattle.tally_cli.specs.declared.fault.UsageFault.{UsageFault}
use Rattle.tally_cli.specs.declared.fault.UsageFault.TheVariants.{Memory, Callers, File, Full, Write}
use Rattle.tally_cli.specs.declared.running.source.Source.{Source}
use Rattle.tally_cli.specs.declared.running.counting.TheConstants.{FILE_BLOCKS}

-- a report on processes alone
abbrev pub IsUsage : Report → Type 0
IsUsage (report.Commands order reverse all) = ⊤
IsUsage (report.Users order reverse) = ⊤
IsUsage r = ⊥

-- a file of process records
abbrev pub IsOfProcs : {I : Type 0} → Source I → Type 0
IsOfProcs source = source.kind ≡ Proc

-- an input has no fault, and not too many records
abbrev pub IsCountable : Told → Type 0
IsCountable input = count_fault FILE_BLOCKS input.bytes ≡ None

-- the chosen process records of an input
abbrev pub procs_told : ProcChoice → Told → List ProcRecord
procs_told choice input = chosen choice (procs_in (records_told input))

-- how many chosen process records the inputs have together
abbrev pub count_told : ProcChoice → List Told → ℕ
count_told choice inputs = sum_by (λ i. length (procs_told choice i)) inputs

-- the source with this number is the first at fault
pub record IsFirstUncounted (inputs : List Told) (host : ℕ) (fault : CountFault) : Type 0 where
  pub near : host < length inputs
  pub earlier : (k : ℕ) (i : Told) → k < host → IsCountable (slice_index_or inputs k i)
  pub own : (i : Told) → IsCountFault FILE_BLOCKS (slice_index_or inputs host i).bytes fault

-- with the chosen records of the source with this number there are too many, and without them there are not
pub record IsFirstOver (choice : ProcChoice) (inputs : List Told) (host : ℕ) : Type 0 where
  pub near : host < length inputs
  pub good : (k : ℕ) (i : Told) → k ≤ host → IsCountable (slice_index_or inputs k i)
  pub before : count_told choice (take host inputs) ≤ SUMS_LIMIT
  pub over : SUMS_LIMIT < count_told choice (take (host + 1) inputs)

-- what a fault shows of the sources
abbrev pub IsUsageCause : ProcChoice → List Told → OutputNow → OutputNow → UsageFault → Type 0
IsUsageCause choice inputs old new Memory = IsUnwritten old new ⊎ All IsCountable inputs
IsUsageCause choice inputs old new (Callers callers) = ⊤
IsUsageCause choice inputs old new (File host fault) = IsFirstUncounted inputs host fault
IsUsageCause choice inputs old new (Full host) = IsFirstOver choice inputs host
IsUsageCause choice inputs old new Write = All IsCountable inputs

-- a fault before the report left the output unwritten
abbrev pub IsUnwrittenYet : OutputNow → OutputNow → UsageFault → Type 0
IsUnwrittenYet old new Memory = ⊤
IsUnwrittenYet old new Write = ⊤
IsUnwrittenYet old new fault = IsUnwritten old new

-- the fault of a number of callers names it, as far as 32 bits hold it
abbrev pub callers_refused : ℕ → UsageFault
callers_refused callers = Callers (min callers 4294967295)

-- a number of callers is refused only where it is none or above 128
abbrev pub IsRefusalAllowed : ℕ → UsageFault → Type 0
IsRefusalAllowed callers (Callers count) = (Callers count ≡ callers_refused callers) × IsWrongNumber callers
IsRefusalAllowed callers fault = ⊤

-- a fault of a file is that of one of so many
abbrev pub IsNamedFile : ℕ → UsageFault → Type 0
IsNamedFile files (File host fault) = host < files
IsNamedFile files (Full host) = host < files
IsNamedFile files fault = ⊤

-- the fault of a run whose printer gave this one
abbrev pub usage_fault_from : PrintFault → UsageFault
usage_fault_from print.Memory = Memory
usage_fault_from print.Write = Write

-- how many calls of the output failed where a run ends so
abbrev pub unwritten_calls : Result (Unit {0}) UsageFault → ℕ
unwritten_calls (Ok done) = 0
unwritten_calls (Err Write) = 1
unwritten_calls (Err fault) = 0

-- a whole run over sources that tell their bytes
pub record IsUsageReported (clock : ClockRows) (job : Job) (wanted : Wanted) (old new : OutputNow) (inputs : List Told) : Type 0 where
  pub good : All IsCountable inputs
  pub few : count_told wanted.choice inputs ≤ SUMS_LIMIT
  pub written : IsTrue old.tells → new.written ≡ old.written ++ usage_printed clock job wanted inputs

-- what is so of a run that answers `Ok`, by the output before and after it
pub record IsWholeUsage {I : Type 0} (to_come : I → Option (List ℕ)) (clock : ClockRows) (job : Job) (wanted : Wanted) (sources : List (Source I)) (old new : OutputNow) : Type 0 where
  pub some : 0 < length sources + job.askers
  pub few : length sources + job.askers ≤ sessions.HOST_LIMIT
  pub told : (inputs : List Told) → Tell to_come sources inputs → IsUsageReported clock job wanted old new inputs

-- a failed run over sources that tell their bytes
pub record IsUsageCut (clock : ClockRows) (job : Job) (wanted : Wanted) (old new : OutputNow) (fault : UsageFault) (inputs : List Told) : Type 0 where
  pub cause : IsUsageCause wanted.choice inputs old new fault
  pub prefix : IsTrue old.tells → AppendsPrefix old.written new.written (usage_printed clock job wanted inputs)

-- what is so of a run that answers a fault: a read failed only where the input can fail
pub record IsFailedUsage {I : Type 0} (to_come : I → Option (List ℕ)) (can_fail : I → Bool) (clock : ClockRows) (job : Job) (wanted : Wanted) (sources : List (Source I)) (old new : OutputNow) (fault : UsageFault) : Type 0 where
  pub allowed : IsRefusalAllowed (length sources + job.askers) fault
  pub named : IsNamedFile (length sources) fault
  pub read : (host : ℕ) → fault ≡ File host count.Read → (s : Source _) → can_fail (slice_index_or sources host s).input ≡ true
  pub unwritten : IsUnwrittenYet old new fault
  pub told : (inputs : List Told) → Tell to_come sources inputs → IsUsageCut clock job wanted old new fault inputs
