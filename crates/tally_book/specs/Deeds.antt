-- What each caller did, and the records of one host.
use Rattle.std.specs.Prelude.{◌≡◌, ℕ, List, [], map, filter, ◌==◌}
use Rattle.std.specs.List.{flat_map}
use Rattle.tally_book.specs.declared.history.Call.{Call}
use Rattle.tally_book.specs.declared.history.Call.TheVariants.{Posted, Asked}
use Rattle.tally_answers.specs.declared.question.Question.{Question}
use Rattle.tally_records.specs.declared.login.LoginRecord.{LoginRecord}
use Rattle.tally_records.specs.declared.process.ProcRecord.{ProcRecord}
use Rattle.tally_sessions.specs.declared.entry.Entry.{Entry}
use Rattle.tally_sessions.specs.Hosts.{of_host}
use Rattle.tally_usage.specs.declared.entry.ProcEntry.{ProcEntry}
use Rattle.tally_usage.specs.Totals.{records_of}
use Rattle.tally_book.specs.Books.{between, calls_of}
use Rattle.tally_book.specs.Contents.{Contents}

-- a post with the records that it added, or a report with its question
pub data Deed : Type 0 where
  Post : (logins : List LoginRecord) → (procs : List ProcRecord) → Deed
  Ask : (question : Question) → Deed

-- the login records of entries
abbrev pub login_records : List Entry → List LoginRecord
login_records entries = map (λ e. e.item) entries

-- what a call in the history of these entries did
abbrev pub deed : List Entry → List ProcEntry → Call → Deed
deed logins procs (Posted caller before after) =
    Post (login_records (between before.logins after.logins logins)) (records_of (between before.procs after.procs procs))
deed logins procs (Asked caller at question answer) = Ask question

-- what a caller did, in order
abbrev pub deeds_of : ℕ → Contents → List Deed
deeds_of caller b = map (deed b.logins b.procs) (calls_of caller b.calls)

-- the login records that a deed added
abbrev pub logins_added : Deed → List LoginRecord
logins_added (Post logins procs) = logins
logins_added (Ask question) = []

-- the process records that a deed added
abbrev pub procs_added : Deed → List ProcRecord
procs_added (Post logins procs) = procs
procs_added (Ask question) = []

-- the process records of one host, in stored order
abbrev pub procs_of_host : ℕ → List ProcEntry → List ProcRecord
procs_of_host host entries = records_of (filter (λ e. e.host == host) entries)

-- a caller's entries are the records of its posts, joined in order
pub record EntriesArePosts (b : Contents) : Type 0 where
  pub logins : (caller : ℕ) → of_host caller b.logins ≡ flat_map logins_added (deeds_of caller b)
  pub procs : (caller : ℕ) → procs_of_host caller b.procs ≡ flat_map procs_added (deeds_of caller b)

-- two pairs of lists with the same records of each host, each in the same order
pub record SameOfEachHost (logins others : List Entry) (procs rest : List ProcEntry) : Type 0 where
  pub same_logins : (host : ℕ) → of_host host logins ≡ of_host host others
  pub same_procs : (host : ℕ) → procs_of_host host procs ≡ procs_of_host host rest
