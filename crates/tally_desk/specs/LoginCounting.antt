-- What comes of counting the login records of an input.
use Rattle.std.specs.Prelude.{◌≡◌, ◌*◌, ◌≤◌, ℕ, List, None, Some, ⊤, length, sum_by}
use Rattle.tally_records.specs.Records.{logins_in}
use Rattle.tally_records.specs.declared.batch.Kind.TheVariants.{Login}
use Rattle.tally_records.specs.declared.login.LoginRecord.{LoginRecord}
use Rattle.tally_sessions.specs.ConnectSums.{Counted, IsCountOf}
use Rattle.tally_desk.specs.Batches.{records_in}
use Rattle.tally_desk.specs.Blocks.{feed_fault}
use Rattle.tally_desk.specs.Feeds.{IsAfter, good_batches}
use Rattle.tally_desk.specs.declared.fault.FeedFault.{FeedFault}
use Rattle.tally_desk.specs.declared.fault.FeedFault.TheVariants.{Memory, Read, LoginsFull, ProcsFull, CallsFull}
use Rattle.tally_desk.specs.declared.fault.Uncounted.{Uncounted}

-- how many records the good blocks of an input have
abbrev pub good_logins : ℕ → List ℕ → ℕ
good_logins most bytes = sum_by (λ batch. length (logins_in batch)) (good_batches most Login bytes)

-- the input has no fault, and this is the count of its records, which are those of its good blocks
pub record IsLoginCount (most : ℕ) (bytes : List ℕ) (c : Counted) : Type 0 where
  pub no_fault : feed_fault most Login bytes ≡ None
  pub count : IsCountOf c (logins_in (records_in Login bytes))
  pub counted : c.count ≡ good_logins most bytes

-- the count of some records, no more than so many
abbrev pub IsCountOfAtMost : ℕ → Counted → Type 0
IsCountOfAtMost most c = (rs : List LoginRecord) × IsCountOf c rs × (length rs ≤ most)

-- a fault of the reading or of memory, and not of a book
abbrev pub IsOfInput : FeedFault → Type 0
IsOfInput (LoginsFull stored) = ⊥
IsOfInput (ProcsFull stored) = ⊥
IsOfInput CallsFull = ⊥
IsOfInput fault = ⊤

-- the fault is the input's first, where memory ran out or a read failed not before
abbrev pub IsLoginFault : ℕ → List ℕ → FeedFault → Type 0
IsLoginFault most bytes Memory = ⊤
IsLoginFault most bytes Read = ⊤
IsLoginFault most bytes (LoginsFull stored) = ⊥
IsLoginFault most bytes (ProcsFull stored) = ⊥
IsLoginFault most bytes CallsFull = ⊥
IsLoginFault most bytes fault = feed_fault most Login bytes ≡ Some fault

-- why an input was not counted to its end: the records that were counted before are of its good blocks
pub record IsLoginStop (most : ℕ) (bytes : List ℕ) (u : Uncounted) : Type 0 where
  pub fault : IsLoginFault most bytes u.fault
  pub counted : u.counted ≤ good_logins most bytes

-- so many full blocks were counted, no more than are to be, and the fault is one of the block after them
pub record IsStoppedLoginCount (most : ℕ) (u : Uncounted) : Type 0 where
  pub blocks : ℕ
  pub counted : u.counted ≡ 1024 * blocks
  pub few : blocks ≤ most
  pub place : IsAfter most Login blocks u.fault
  pub of_input : IsOfInput u.fault
