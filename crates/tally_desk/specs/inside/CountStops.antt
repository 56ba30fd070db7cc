-- Where a count of blocks stops, and the fault that its caller is given.
use Rattle.std.specs.Prelude.{◌≡◌, ◌*◌, ◌≤◌, ℕ, List, Some, ⊤}
use Rattle.tally_records.specs.declared.batch.Kind.TheVariants.{Proc}
use Rattle.tally_desk.specs.Counting.{count_fault}
use Rattle.tally_desk.specs.inside.Turns.{IsInBlock}
use Rattle.tally_desk.specs.declared.fault.CountFault.{CountFault}
use Rattle.tally_desk.specs.declared.fault.CountFault.TheVariants as given
use Rattle.tally_desk.specs.declared.fault.FeedFault.{FeedFault}
use Rattle.tally_desk.specs.declared.fault.FeedFault.TheVariants.{Memory, Read, Torn, TooLong, Bad, LoginsFull, ProcsFull, CallsFull}

-- the first fault of an input, where memory ran out or a read failed not before
abbrev pub IsFirstFault : ℕ → List ℕ → FeedFault → Type 0
IsFirstFault most bytes Memory = ⊤
IsFirstFault most bytes Read = ⊤
IsFirstFault most bytes (LoginsFull stored) = ⊥
IsFirstFault most bytes (ProcsFull stored) = ⊥
IsFirstFault most bytes CallsFull = ⊥
IsFirstFault most bytes fault = count_fault most bytes ≡ Some fault

-- the fault is that of more blocks than are counted, or lies in the block after so many
abbrev pub IsPlace : ℕ → ℕ → FeedFault → Type 0
IsPlace most count (TooLong limit) = (count ≡ most) × (limit ≡ 1024 * most)
IsPlace most count fault = IsInBlock Proc count fault

-- so many full blocks were counted, no more than are to be, and the fault is one of the block after them
abbrev pub IsStoppedAfter : ℕ → FeedFault → Type 0
IsStoppedAfter most fault = (count : ℕ) × (count ≤ most) × IsPlace most count fault

-- a count gives its caller this fault for that of its reading
abbrev pub IsGivenFor : FeedFault → CountFault → Type 0
IsGivenFor fault given.Memory = fault ≡ Memory
IsGivenFor fault given.Read = fault ≡ Read
IsGivenFor fault (given.Torn records rest) = fault ≡ Torn records rest
IsGivenFor fault (given.TooLong limit) = fault ≡ TooLong limit
IsGivenFor fault (given.Bad at bad) = fault ≡ Bad at bad
