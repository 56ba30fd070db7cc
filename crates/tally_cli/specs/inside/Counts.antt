-- What the counts of files of process records come to.
use Rattle.std.specs.Prelude.{◌≡◌, ◌<◌, ◌≤◌, ◌+◌, ◌∷◌, [], ℕ, ℤ, Bool, List, Option, Some, true, ⊤, flat_map, length, map, slice_index_or, take}
use Rattle.std.specs.List.{All}
use Rattle.tally_answers.specs.Answers.{answer_of}
use Rattle.tally_answers.specs.declared.question.Answer.{Answer}
use Rattle.tally_clock.specs.Rows.{ClockRows}
use Rattle.tally_desk.specs.Counting.{IsCounted, IsCountFault}
use Rattle.tally_desk.specs.declared.fault.CountFault.{CountFault}
use Rattle.tally_desk.specs.declared.fault.CountFault.TheVariants as fault
use Rattle.tally_line.specs.declared.job.Report.{Report}
use Rattle.tally_records.specs.declared.batch.Kind.{Kind}
use Rattle.tally_records.specs.declared.process.ProcRecord.{ProcRecord}
use Rattle.tally_sessions.specs.declared.entry.Entry.{Entry}
use Rattle.tally_usage.specs.Sums.{AreSumsOf, Counted, CountsBoth}
use Rattle.tally_usage.specs.Totals.{records_of}
use Rattle.tally_usage.specs.declared.choice.ProcChoice.{ProcChoice}
use Rattle.tally_usage.specs.declared.entry.ProcEntry.{ProcEntry}
use Rattle.tally_usage.specs.declared.usage.TheConstants.{SUMS_LIMIT}
use Rattle.tally_cli.specs.Output.{questions_of}
use Rattle.tally_cli.specs.Runs.{Told}
use Rattle.tally_cli.specs.Usages.{IsCountable, IsFirstOver, IsFirstUncounted, procs_told}
use Rattle.tally_cli.specs.declared.fault.UsageFault.{UsageFault}
use Rattle.tally_cli.specs.declared.fault.UsageFault.TheVariants.{Memory, Callers, File, Full, Write}
use Rattle.tally_cli.specs.declared.running.source.Source.{Source}
use Rattle.tally_cli.specs.declared.running.counting.TheConstants.{FILE_BLOCKS}
use Rattle.tally_cli.specs.declared.running.files.Count.{Count}
use Rattle.tally_cli.specs.declared.running.files.Count.TheVariants as count
use Rattle.tally_cli.specs.declared.running.files.FileCount.{FileCount}
use Rattle.tally_cli.specs.inside.Files.{HasSums}

-- what the count of a file of process records came to
abbrev pub ProcCount : Type 0
ProcCount = Count Counted CountFault

-- a file of process records, and what its count came to
abbrev pub ProcFile : Type 0 → Type 0
ProcFile I = FileCount I Counted CountFault

-- what a source's count came to, where it was tried
abbrev pub CameOf : {I : Type 0} → ProcChoice → (I → Option (List ℕ)) → (I → Bool) → Source I → ProcCount → Type 0
CameOf choice to_come can_fail source count.Untried = ⊤
CameOf choice to_come can_fail source (count.Sums sums) = (bytes : List ℕ) → to_come source.input ≡ Some bytes → IsCounted choice FILE_BLOCKS bytes sums
CameOf choice to_come can_fail source (count.Fault found) = (found ≡ fault.Read → can_fail source.input ≡ true)
    × ((bytes : List ℕ) → to_come source.input ≡ Some bytes → IsCountFault FILE_BLOCKS bytes found)

-- the count has the sums of these records, if it has sums
abbrev pub AreSumsIn : ProcCount → List ProcRecord → Type 0
AreSumsIn (count.Sums sums) rs = AreSumsOf sums rs
AreSumsIn c rs = ⊤

-- each count that has sums has those of its part
pub record AreSumsInEach (files : ℕ) (at : ℕ → ProcCount) (parts : List (List ProcRecord)) : Type 0 where
  pub length_is : length parts ≡ files
  pub each : (k : ℕ) → k < files → AreSumsIn (at k) (slice_index_or parts k [])

-- the records of the first parts
abbrev pub first_parts : ℕ → List (List ProcRecord) → List ProcRecord
first_parts n parts = flat_map (λ p. p) (take n parts)

-- what was summed, and then what a count has
abbrev pub Joins : ProcCount → Counted → Counted → Type 0
Joins (count.Sums sums) old new = CountsBoth old sums new
Joins c old new = ⊥

-- with the sums of a count there are too many records
abbrev pub IsOver : Counted → ProcCount → Type 0
IsOver total (count.Sums sums) = SUMS_LIMIT < total.total.count + sums.total.count
IsOver total c = ⊥

-- a count was not joined: memory ran out, its file is at fault, or there are too many records
abbrev pub IsNotJoined : ProcCount → Counted → ℕ → UsageFault → Type 0
IsNotJoined c total host Memory = HasSums c
IsNotJoined c total host (File at found) = (at ≡ host) × (c ≡ count.Fault found)
IsNotJoined c total host (Full at) = (at ≡ host) × IsOver total c
IsNotJoined c total host found = ⊥

-- all counts are joined in order
pub record AreJoined (files : ℕ) (at : ℕ → ProcCount) (s : Counted) : Type 0 where
  pub all : (k : ℕ) → k < files → HasSums (at k)
  pub sums : (parts : List (List ProcRecord)) → AreSumsInEach files at parts → AreSumsOf s (first_parts files parts)

-- the first count with a fault
pub record IsFirst (files : ℕ) (at : ℕ → ProcCount) (host : ℕ) (found : CountFault) : Type 0 where
  pub near : host < files
  pub earlier : (k : ℕ) → k < host → HasSums (at k)
  pub own : at host ≡ count.Fault found

-- the first count with which there are too many records
pub record IsFirstTooMany (files : ℕ) (at : ℕ → ProcCount) (host : ℕ) : Type 0 where
  pub near : host < files
  pub all : (k : ℕ) → k ≤ host → HasSums (at k)
  pub before : (parts : List (List ProcRecord)) → AreSumsInEach files at parts → length (first_parts host parts) ≤ SUMS_LIMIT
  pub over : (parts : List (List ProcRecord)) → AreSumsInEach files at parts → SUMS_LIMIT < length (first_parts (host + 1) parts)

-- why counts are not joined
abbrev pub IsJoinFault : ℕ → (ℕ → ProcCount) → UsageFault → Type 0
IsJoinFault files at Memory = ⊤
IsJoinFault files at (File host found) = IsFirst files at host found
IsJoinFault files at (Full host) = IsFirstTooMany files at host
IsJoinFault files at found = ⊥

-- the inputs have no fault, and these are the sums of their chosen records
pub record AreSummed (choice : ProcChoice) (inputs : List Told) (s : Counted) : Type 0 where
  pub good : All IsCountable inputs
  pub sums : AreSumsOf s (flat_map (procs_told choice) inputs)

-- what a fault of the counting shows of the inputs
abbrev pub IsCountCause : ProcChoice → List Told → UsageFault → Type 0
IsCountCause choice inputs Memory = ⊤
IsCountCause choice inputs (Callers callers) = ⊤
IsCountCause choice inputs (File host found) = IsFirstUncounted inputs host found
IsCountCause choice inputs (Full host) = IsFirstOver choice inputs host
IsCountCause choice inputs Write = ⊥

-- memory ran out, or a file is at fault, by a failed read only where it can fail
abbrev pub IsCountRefusal : {I : Type 0} → (I → Bool) → List (Source I) → UsageFault → Type 0
IsCountRefusal can_fail sources Memory = ⊤
IsCountRefusal can_fail sources (File host found) = (host < length sources)
    × (found ≡ fault.Read → (s : Source _) → can_fail (slice_index_or sources host s).input ≡ true)
IsCountRefusal can_fail sources (Full host) = host < length sources
IsCountRefusal can_fail sources found = ⊥

-- nothing but the printing failed
abbrev pub IsPrinting : UsageFault → Type 0
IsPrinting Memory = ⊤
IsPrinting Write = ⊤
IsPrinting found = ⊥

-- the answer to the one question of a report on processes, over entries whose records these are the sums of
abbrev pub IsAnswerOn : Report → Counted → Answer → Type 0
IsAnswerOn report s answer = (clock : ClockRows) (offset : ℤ) (kinds : List Kind) (until : Option ℤ) (logins : List Entry) (procs : List ProcEntry)
    → AreSumsOf s (records_of procs) → map (λ q. answer_of clock q logins procs) (questions_of report offset kinds until) ≡ answer ∷ []
