-- What the counts of files of login records come to.
use Rattle.std.specs.Prelude.{◌≡◌, ◌⊎◌, ◌<◌, ◌≤◌, ◌+◌, ◌-◌, ◌*◌, ◌/◌, ℕ, suc, zero, Bool, List, Option, Some, false, true, ⊤, length, map, slice_index_or}
use Rattle.std.specs.List.{All}
use Rattle.tally_book.specs.Rooms.{batches_in}
use Rattle.tally_desk.specs.LoginCounting.{IsLoginCount, IsLoginStop, IsStoppedLoginCount}
use Rattle.tally_desk.specs.declared.fault.FeedFault.{FeedFault}
use Rattle.tally_desk.specs.declared.fault.FeedFault.TheVariants as feed
use Rattle.tally_desk.specs.declared.fault.Uncounted.{Uncounted}
use Rattle.tally_line.specs.declared.job.Job.{Job}
use Rattle.tally_line.specs.declared.job.Report.{Report}
use Rattle.tally_line.specs.declared.job.Report.TheVariants as report
use Rattle.tally_records.specs.Choice.{is_every_login}
use Rattle.tally_records.specs.declared.batch.TheConstants.{BATCH_LIMIT}
use Rattle.tally_records.specs.declared.batch.Kind.TheVariants.{Login}
use Rattle.tally_sessions.specs.ConnectSums.{AreCountsOf, Counted}
use Rattle.tally_cli.specs.Apart.{Apart, has_paths, is_by_file}
use Rattle.tally_cli.specs.Output.{login_entries}
use Rattle.tally_cli.specs.Runs.{IsAllowed, IsFullList, IsGood, IsNamed, Told, records_told}
use Rattle.tally_cli.specs.declared.fault.RunFault.{RunFault}
use Rattle.tally_cli.specs.declared.fault.RunFault.TheVariants.{Memory, File}
use Rattle.tally_cli.specs.declared.running.source.Source.{Source}
use Rattle.tally_cli.specs.declared.running.files.Count.{Count}
use Rattle.tally_cli.specs.declared.running.files.Count.TheVariants as count
use Rattle.tally_cli.specs.declared.running.files.FileCount.{FileCount}
use Rattle.tally_cli.specs.inside.Files.{HasSums, IsFault}

-- ---- which runs count

-- a report on the connect time of all sessions
abbrev pub IsOfAllSessions : Report → Type 0
IsOfAllSessions (report.Connect by_day by_user choice) = is_every_login choice ≡ true
IsOfAllSessions r = ⊥

-- whether a report has rows by day
abbrev pub is_by_day : Report → Bool
is_by_day (report.Connect by_day by_user choice) = by_day
is_by_day r = false

-- a file of login records
abbrev pub IsOfLogins : {I : Type 0} → Source I → Type 0
IsOfLogins source = source.kind ≡ Login

-- a job on files that needs no record: nothing is asked meanwhile
pub record IsCountedRun {I : Type 0} (job : Job) (sources : List (Source I)) : Type 0 where
  pub report : IsOfAllSessions job.report
  pub alone : job.askers ≡ 0
  pub logins : All IsOfLogins sources

-- the files of a job are not told apart
abbrev pub IsTogether : Apart → Job → Type 0
IsTogether apart job = (is_by_file apart job.report ≡ false) × (has_paths apart job ≡ false)

-- ---- the count of a file

-- what the count of a file of login records came to
abbrev pub LoginCount : Type 0
LoginCount = Count Counted Uncounted

-- a file of login records, and what its count came to
abbrev pub LoginFile : Type 0 → Type 0
LoginFile I = FileCount I Counted Uncounted

-- how many records were counted
abbrev pub counted_of : LoginCount → ℕ
counted_of count.Untried = 0
counted_of (count.Sums sums) = sums.count
counted_of (count.Fault found) = found.counted

-- what a source's count came to, where it was tried, a file has room for so many records and sessions are kept or not
abbrev pub CameOf : {I : Type 0} → (I → Option (List ℕ)) → (I → Bool) → ℕ → Bool → Source I → LoginCount → Type 0
CameOf to_come can_fail room keeps_sessions source count.Untried = ⊤
CameOf to_come can_fail room keeps_sessions source (count.Sums sums) = (sums.keeps_sessions ≡ keeps_sessions)
    × ((bytes : List ℕ) → to_come source.input ≡ Some bytes → IsLoginCount (batches_in room) bytes sums)
CameOf to_come can_fail room keeps_sessions source (count.Fault found) = IsStoppedLoginCount (batches_in room) found × (found.fault ≡ feed.Read → can_fail source.input ≡ true)
    × ((bytes : List ℕ) → to_come source.input ≡ Some bytes → IsLoginStop (batches_in room) bytes found)

-- ---- the counts of all files

-- how many records the first counts have
unfoldable pub counted_before : (ℕ → LoginCount) → ℕ → ℕ
counted_before at zero = 0
counted_before at (suc n) = counted_before at n + counted_of (at n)

-- counting stops at a file that has a fault, and at one with which the records so far are too many
abbrev pub StopsAt : ℕ → (ℕ → LoginCount) → ℕ → Type 0
StopsAt room at place = IsFault (at place) ⊎ (room < counted_before at (place + 1))

-- how many records of so many a book has stored that takes no more of the full batches that follow
abbrev pub stored_when_full : ℕ → ℕ → ℕ
stored_when_full room before = before + (room - before) / BATCH_LIMIT * BATCH_LIMIT

-- with what a count has there are too many records, after so many
abbrev pub IsTooMany : ℕ → ℕ → LoginCount → FeedFault → Type 0
IsTooMany room before c found = (found ≡ feed.LoginsFull (stored_when_full room before)) × (room < before + counted_of c)

-- the count has this fault
abbrev pub HasFault : LoginCount → FeedFault → Type 0
HasFault c found = (n : ℕ) × (c ≡ count.Fault (record { counted = n; fault = found }))

-- a count was not taken: there are too many records, or its file is at fault
abbrev pub IsNotTaken : ℕ → ℕ → ℕ → LoginCount → RunFault → Type 0
IsNotTaken room host before c (File at found) = (at ≡ host) × (IsTooMany room before c found ⊎ HasFault c found)
IsNotTaken room host before c found = ⊥

-- these are all counts, in order
pub record AreTaken (files : ℕ) (at : ℕ → LoginCount) (counts : List Counted) : Type 0 where
  pub length_is : length counts ≡ files
  pub each : (k : ℕ) (c : Counted) → k < files → at k ≡ count.Sums (slice_index_or counts k c)

-- the first count that was not taken
pub record IsFirstNotTaken (room files : ℕ) (at : ℕ → LoginCount) (host : ℕ) (found : FeedFault) : Type 0 where
  pub near : host < files
  pub earlier : (k : ℕ) → k < host → HasSums (at k)
  pub few : counted_before at host ≤ room
  pub own : IsTooMany room (counted_before at host) (at host) found ⊎ HasFault (at host) found

-- why counts are not taken
abbrev pub IsTakeFault : ℕ → ℕ → (ℕ → LoginCount) → RunFault → Type 0
IsTakeFault room files at Memory = ⊤
IsTakeFault room files at (File host found) = IsFirstNotTaken room files at host found
IsTakeFault room files at found = ⊥

-- ---- what a run knows of them

-- the inputs have no fault where there is so much room, and these are the counts of their records, one of each
pub record AreCountedIn (room : ℕ) (inputs : List Told) (cs : List Counted) : Type 0 where
  pub good : All (IsGood room) inputs
  pub counts : AreCountsOf cs (login_entries (map records_told inputs))

-- memory ran out, or a file is at fault as `run` allows it
pub record IsLoginRefusal {I : Type 0} (can_fail : I → Bool) (room callers : ℕ) (sources : List (Source I)) (found : RunFault) : Type 0 where
  pub allowed : IsAllowed callers found
  pub named : IsNamed (length sources) callers found
  pub full : IsFullList room sources found
  pub read : (host : ℕ) → found ≡ File host feed.Read → (s : Source I) → can_fail (slice_index_or sources host s).input ≡ true
