-- Which books are legal, and what an answered call makes of a book.
use Rattle.std.specs.Prelude.{◌≡◌, ◌⊎◌, ℕ, ◌+◌, ◌<◌, ◌≤◌, List, [], ◌∷◌, ◌++◌, length, take, drop, filter, ◌==◌}
use Rattle.std.specs.List.{All}
use Rattle.tally_book.specs.declared.history.Call.{Call}
use Rattle.tally_book.specs.declared.history.Call.TheVariants.{Posted, Asked}
use Rattle.tally_book.specs.declared.history.Counts.{Counts}
use Rattle.tally_book.specs.declared.history.Receipt.{Receipt}
use Rattle.tally_book.specs.declared.history.Served.{Served}
use Rattle.tally_answers.specs.declared.question.Question.{Question}
use Rattle.tally_answers.specs.declared.question.Answer.{Answer}
use Rattle.tally_book.specs.declared.book.TheConstants.{CALL_LIMIT}
use Rattle.tally_book.specs.declared.room.TheConstants.{MILLION}
use Rattle.tally_clock.specs.Rows.{ClockRows}
use Rattle.tally_records.specs.declared.batch.TheConstants.{BATCH_LIMIT}
use Rattle.tally_records.specs.Records.{Records, logins_in, procs_in}
use Rattle.tally_sessions.specs.declared.sessions.TheConstants as sessions
use Rattle.tally_sessions.specs.declared.entry.Entry.{Entry}
use Rattle.tally_sessions.specs.Hosts.{posted_by}
use Rattle.tally_usage.specs.declared.entry.ProcEntry.{ProcEntry}
use Rattle.tally_usage.specs.Summary.{entries_of}
use Rattle.tally_answers.specs.Answers.{answer_of, NamesHostBelow}
use Rattle.tally_book.specs.Contents.{Contents}
use Rattle.tally_book.specs.Rooms.{IsRoom}

-- who made a call
abbrev pub caller_of : Call → ℕ
caller_of (Posted caller before after) = caller
caller_of (Asked caller at question answer) = caller

-- what was stored before a call
abbrev pub before_of : Call → Counts
before_of (Posted caller before after) = before
before_of (Asked caller at question answer) = at

-- what was stored after a call
abbrev pub after_of : Call → Counts
after_of (Posted caller before after) = after
after_of (Asked caller at question answer) = at

-- the entries from one place to another
abbrev pub between : {X : Type 0} → ℕ → ℕ → List X → List X
between from to xs = drop from (take to xs)

-- a post added at most a batch of records of one kind, under its caller
pub record IsPost (callers : ℕ) (logins : List Entry) (procs : List ProcEntry) (caller : ℕ) (before after : Counts) : Type 0 where
  pub caller_in : caller < callers
  pub logins_grow : before.logins ≤ after.logins
  pub procs_grow : before.procs ≤ after.procs
  pub logins_in : after.logins ≤ length logins
  pub procs_in : after.procs ≤ length procs
  pub one_kind : (after.logins ≡ before.logins) ⊎ (after.procs ≡ before.procs)
  pub few_logins : after.logins ≤ before.logins + BATCH_LIMIT
  pub few_procs : after.procs ≤ before.procs + BATCH_LIMIT
  pub own_logins : All (λ (e : Entry). e.host ≡ caller) (between before.logins after.logins logins)
  pub own_procs : All (λ (e : ProcEntry). e.host ≡ caller) (between before.procs after.procs procs)

-- a report is the defined answer over what was stored before it
pub record IsReport (callers : ℕ) (clock : ClockRows) (logins : List Entry) (procs : List ProcEntry) (caller : ℕ) (at : Counts) (question : Question) (answer : Answer) : Type 0 where
  pub caller_in : caller < callers
  pub logins_in : at.logins ≤ length logins
  pub procs_in : at.procs ≤ length procs
  pub host_in : NamesHostBelow callers question
  pub defined : answer ≡ answer_of clock question (take at.logins logins) (take at.procs procs)

-- a call did what its kind does
abbrev pub IsCall : ℕ → ClockRows → List Entry → List ProcEntry → Call → Type 0
IsCall callers clock logins procs (Posted caller before after) = IsPost callers logins procs caller before after
IsCall callers clock logins procs (Asked caller at question answer) = IsReport callers clock logins procs caller at question answer

-- each call begins at the counts where the one before it ended
abbrev pub Chains : Counts → List Call → Counts → Type 0
Chains start [] end = start ≡ end
Chains start (c ∷ cs) end = (before_of c ≡ start) × Chains (after_of c) cs end

-- how much a book stores
abbrev pub counts_of : Contents → Counts
counts_of b = record { logins = length b.logins; procs = length b.procs }

-- nothing is stored
abbrev pub nothing : Counts
nothing = record { logins = 0; procs = 0 }

-- the calls are a history of one thread that stored these entries, within the limits
pub record IsLegal (b : Contents) : Type 0 where
  pub some_callers : 1 ≤ b.callers
  pub few_callers : b.callers ≤ sessions.HOST_LIMIT
  pub few_calls : length b.calls ≤ CALL_LIMIT
  pub room : IsRoom b.room
  pub few_logins : length b.logins ≤ b.room
  pub few_procs : length b.procs ≤ b.room
  pub chained : Chains nothing b.calls (counts_of b)
  pub sound : All (IsCall b.callers b.clock b.logins b.procs) b.calls

-- a book of so many callers without calls, with days by a clock and room for so many records
abbrev pub empty_with_room : ClockRows → ℕ → ℕ → Contents
empty_with_room clock room callers = record { callers = callers; clock = clock; room = room; logins = []; procs = []; calls = [] }

-- the same with room for a million
abbrev pub empty : ClockRows → ℕ → Contents
empty clock callers = empty_with_room clock MILLION callers

-- how much is stored once a batch was added
abbrev pub counts_with : Contents → Records → Counts
counts_with b batch = record {
  logins = length b.logins + length (logins_in batch);
  procs = length b.procs + length (procs_in batch);
}

-- the book after a post: its list is followed by the batch under the caller, the history by one call
abbrev pub posted : Contents → ℕ → Records → Contents
posted b caller batch = record {
  callers = b.callers;
  clock = b.clock;
  room = b.room;
  logins = b.logins ++ posted_by caller (logins_in batch);
  procs = b.procs ++ entries_of caller (procs_in batch);
  calls = b.calls ++ Posted caller (counts_of b) (counts_with b batch) ∷ [];
}

-- the book after a report: the history is followed by one call
abbrev pub asked : Contents → ℕ → Question → Contents
asked b caller question = record {
  callers = b.callers;
  clock = b.clock;
  room = b.room;
  logins = b.logins;
  procs = b.procs;
  calls = b.calls ++ Asked caller (counts_of b) question (answer_of b.clock question b.logins b.procs) ∷ [];
}

-- the calls of one caller, in order
abbrev pub calls_of : ℕ → List Call → List Call
calls_of caller calls = filter (λ c. caller_of c == caller) calls

-- what a post answers: the number of calls with it, and what was stored before and after it
pub record IsReceipt (old new : Contents) (receipt : Receipt) : Type 0 where
  pub call : receipt.call ≡ length new.calls
  pub before : receipt.before ≡ counts_of old
  pub after : receipt.after ≡ counts_of new

-- what a report answers: the number of calls with it, what was stored, and the defined answer
pub record IsServed (old new : Contents) (question : Question) (served : Served) : Type 0 where
  pub call : served.call ≡ length new.calls
  pub at : served.at ≡ counts_of old
  pub answer : served.answer ≡ answer_of old.clock question old.logins old.procs
