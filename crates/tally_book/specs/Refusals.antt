-- When a call is refused. The causes are named in their order, so that no cause passes for another.
use Rattle.std.specs.Prelude.{◌≡◌, ℕ, ◌+◌, ◌<◌, ◌≤◌, length}
use Rattle.tally_book.specs.declared.fault.PostFault.{PostFault}
use Rattle.tally_book.specs.declared.fault.PostFault.TheVariants as post
use Rattle.tally_book.specs.declared.fault.AskFault.{AskFault}
use Rattle.tally_book.specs.declared.fault.AskFault.TheVariants as ask
use Rattle.tally_book.specs.declared.history.Counts.{Counts}
use Rattle.tally_answers.specs.declared.question.Question.{Question}
use Rattle.tally_book.specs.declared.book.TheConstants.{CALL_LIMIT}
use Rattle.tally_records.specs.Records.{Records, logins_in, procs_in}
use Rattle.tally_answers.specs.Answers.{NamesHost, NamesHostBelow}

-- both lists have room for the batch below so many records
pub record HasRoom (room : ℕ) (stored : Counts) (batch : Records) : Type 0 where
  pub logins : stored.logins + length (logins_in batch) ≤ room
  pub procs : stored.procs + length (procs_in batch) ≤ room

-- the fault of a post to a book of so much room names its cause, and the causes before it do not hold
abbrev pub IsPostRefusal : ℕ → Counts → ℕ → Records → PostFault → Type 0
IsPostRefusal room stored calls batch (post.LoginsFull told) =
    (told ≡ stored.logins) × (room < stored.logins + length (logins_in batch))
IsPostRefusal room stored calls batch (post.ProcsFull told) =
    (told ≡ stored.procs) × (room < stored.procs + length (procs_in batch))
IsPostRefusal room stored calls batch post.CallsFull = HasRoom room stored batch × (calls ≡ CALL_LIMIT)
IsPostRefusal room stored calls batch post.Memory = HasRoom room stored batch × (calls < CALL_LIMIT)

-- the fault of a report names its cause, and the causes before it do not hold
abbrev pub IsAskRefusal : ℕ → ℕ → Question → AskFault → Type 0
IsAskRefusal callers calls question ask.CallsFull = calls ≡ CALL_LIMIT
IsAskRefusal callers calls question (ask.NoSuchHost host) =
    (calls < CALL_LIMIT) × (callers ≤ host) × NamesHost question host
IsAskRefusal callers calls question ask.Memory = (calls < CALL_LIMIT) × NamesHostBelow callers question
