-- The parts of a report by file.
use Rattle.std.specs.Prelude.{◌≡◌, ◌++◌, ◌<◌, ◌∷◌, [], ℕ, ℤ, Bool, List, Option, Some, None, ⊤, length, map, if◌then◌else◌, option_map, slice_index_or}
use Rattle.std.specs.Borrow.{Bor}
use Rattle.tally_answers.specs.Answers.{HasDays, answer_of}
use Rattle.tally_answers.specs.declared.question.Answer.{Answer}
use Rattle.tally_answers.specs.declared.question.Question.TheVariants as questions
use Rattle.tally_clock.specs.Rows.{ClockRows}
use Rattle.tally_line.specs.declared.job.Job.{Job}
use Rattle.tally_line.specs.declared.job.Report.{Report}
use Rattle.tally_records.specs.declared.batch.Kind.{Kind}
use Rattle.tally_records.specs.declared.choice.LoginChoice.{LoginChoice}
use Rattle.tally_records.specs.declared.process.ProcRecord.{ProcRecord}
use Rattle.tally_sessions.specs.Hosts.{entries_of_host}
use Rattle.tally_sessions.specs.declared.entry.Entry.{Entry}
use Rattle.tally_usage.specs.Totals.{records_of}
use Rattle.tally_usage.specs.declared.choice.ProcChoice.{ProcChoice}
use Rattle.tally_usage.specs.declared.entry.ProcEntry.{ProcEntry}
use Rattle.tally_cli.specs.Output.{questions_of}
use Rattle.tally_cli.specs.Runs.{Told}
use Rattle.tally_cli.specs.Apart.{Apart, Names, file_text}
use Rattle.tally_cli.specs.Usages.{procs_told}
use Rattle.tally_cli.specs.declared.running.files.Count.TheVariants as count
use Rattle.tally_cli.specs.declared.running.parts.FilePart.{FilePart}
use Rattle.tally_cli.specs.declared.running.wanted.UsageWanted.{UsageWanted}
use Rattle.tally_cli.specs.inside.Counts.{ProcCount, IsAnswerOn}

-- a report that is lent
abbrev pub report_lent : Option (Bor Report) → Option Report
report_lent lent = option_map (λ r. r.now) lent

-- the report that each file has by itself, where that is wanted
abbrev pub report_by_file : UsageWanted → Report → Option Report
report_by_file wanted r = if wanted.apart.asked.by_file then Some r else None

-- a part is that of one of 128 files, and the days of its answer are within their bounds
pub record HasPart (part : FilePart) : Type 0 where
  pub few : part.file < 128
  pub days : HasDays part.answer

-- a file has its number and the answer on its sums
abbrev pub IsPartOf : Report → ℕ → ProcCount → FilePart → Type 0
IsPartOf r file (count.Sums sums) part = (part.file ≡ file) × HasDays part.answer × IsAnswerOn r sums part.answer
IsPartOf r file c part = ⊥

-- one more part, where parts are wanted and the file has sums
abbrev pub IsWithPart : Option Report → ℕ → ProcCount → List FilePart → List FilePart → Type 0
IsWithPart (Some r) file (count.Sums sums) old new = (part : FilePart) × IsPartOf r file (count.Sums sums) part × (new ≡ old ++ part ∷ [])
IsWithPart wanted file c old new = new ≡ old

-- the parts of the first files, whose counts are at their numbers
pub record AreParts (r : Report) (files : ℕ) (at : ℕ → ProcCount) (parts : List FilePart) : Type 0 where
  pub count : length parts ≡ files
  pub each : (k : ℕ) (d : FilePart) → k < files → IsPartOf r k (at k) (slice_index_or parts k d)

-- there are parts where they are wanted
abbrev pub ArePartsWanted : Option Report → ℕ → (ℕ → ProcCount) → List FilePart → Type 0
ArePartsWanted (Some r) files at parts = AreParts r files at parts
ArePartsWanted None files at parts = parts ≡ []

-- the answer on these records to the one question of a report on processes
abbrev pub IsAnswerAbout : Report → List ProcRecord → Answer → Type 0
IsAnswerAbout r rs answer = (clock : ClockRows) (offset : ℤ) (kinds : List Kind) (until : Option ℤ) (logins : List Entry) (procs : List ProcEntry)
    → records_of procs ≡ rs → map (λ q. answer_of clock q logins procs) (questions_of r offset kinds until) ≡ answer ∷ []

-- each input has its number and the answer on its chosen records
pub record AreAnswered (choice : ProcChoice) (r : Report) (inputs : List Told) (parts : List FilePart) : Type 0 where
  pub count : length parts ≡ length inputs
  pub own : (k : ℕ) (d : FilePart) → k < length inputs → (slice_index_or parts k d).file ≡ k
  pub answer : (k : ℕ) (i : Told) (d : FilePart) → k < length inputs → IsAnswerAbout r (procs_told choice (slice_index_or inputs k i)) (slice_index_or parts k d).answer

-- where parts are wanted
abbrev pub AreAnsweredWanted : ProcChoice → Option Report → List Told → List FilePart → Type 0
AreAnsweredWanted choice (Some r) inputs parts = AreAnswered choice r inputs parts
AreAnsweredWanted choice None inputs parts = ⊤

-- the text of a part
abbrev pub part_text : ClockRows → Job → Names → Apart → FilePart → List ℕ
part_text clock job names apart part = file_text clock job names apart part.file (part.answer ∷ [])

-- the part of a file of login entries: its number, and the connect time of its entries alone
abbrev pub part_alone : ClockRows → Bool → Bool → LoginChoice → Job → List Entry → ℕ → FilePart
part_alone clock by_day by_user choice job logins file =
    record { file = file; answer = answer_of clock (questions.Connect by_day by_user job.offset choice job.until) (entries_of_host file logins) [] }
