-- What comes of counting the process records of an input.
use Rattle.std.specs.Prelude.{◌≡◌, ◌+◌, ◌*◌, ◌<◌, ◌≤◌, ℕ, List, Option, None, Some, ⊤, length, slice_get}
use Rattle.std.specs.List.{filter_map}
use Rattle.tally_records.specs.Records.{procs_in}
use Rattle.tally_records.specs.declared.batch.Kind.TheVariants.{Proc}
use Rattle.tally_records.specs.declared.process.ProcRecord.{ProcRecord}
use Rattle.tally_usage.specs.Choice.{chosen}
use Rattle.tally_usage.specs.Sums.{AreSumsOf, Counted}
use Rattle.tally_usage.specs.declared.choice.ProcChoice.{ProcChoice}
use Rattle.tally_desk.specs.Batches.{record_size, records_in}
use Rattle.tally_desk.specs.Blocks.{block_fault, numbered_blocks}
use Rattle.tally_desk.specs.declared.fault.CountFault.{CountFault}
use Rattle.tally_desk.specs.declared.fault.CountFault.TheVariants.{Memory, Read, Torn, TooLong, Bad}
use Rattle.tally_desk.specs.declared.fault.FeedFault.{FeedFault}
use Rattle.tally_desk.specs.declared.fault.FeedFault.TheVariants as feed

-- the first fault of an input of process records of which at most so many blocks are counted
abbrev pub count_fault : ℕ → List ℕ → Option FeedFault
count_fault most bytes =
    slice_get (filter_map (block_fault most Proc (length bytes)) (numbered_blocks Proc bytes)) 0

-- the input has no fault, and these are the sums of its chosen records
pub record IsCounted (choice : ProcChoice) (most : ℕ) (bytes : List ℕ) (s : Counted) : Type 0 where
  pub no_fault : count_fault most bytes ≡ None
  pub sums : AreSumsOf s (chosen choice (procs_in (records_in Proc bytes)))

-- the sums of some records, no more than so many
abbrev pub AreSumsOfAtMost : ℕ → Counted → Type 0
AreSumsOfAtMost most s = (rs : List ProcRecord) × AreSumsOf s rs × (length rs ≤ most)

-- why an input was not counted to its end: it is its first fault, where memory ran out or a read failed not before
abbrev pub IsCountFault : ℕ → List ℕ → CountFault → Type 0
IsCountFault most bytes Memory = ⊤
IsCountFault most bytes Read = ⊤
IsCountFault most bytes (Torn records rest) = count_fault most bytes ≡ Some (feed.Torn records rest)
IsCountFault most bytes (TooLong limit) =
    (limit ≡ 1024 * most) × (count_fault most bytes ≡ Some (feed.TooLong limit))
IsCountFault most bytes (Bad at fault) = count_fault most bytes ≡ Some (feed.Bad at fault)

-- the fault is that of more blocks than are counted, or one of the block after the first `count`, where it names its place
abbrev pub IsCountPlace : ℕ → ℕ → CountFault → Type 0
IsCountPlace most count (Torn records rest) =
    (1024 * count ≤ records) × (records < 1024 * (count + 1)) × (0 < rest) × (rest < record_size Proc)
IsCountPlace most count (TooLong limit) = (count ≡ most) × (limit ≡ 1024 * most)
IsCountPlace most count (Bad at fault) = (1024 * count ≤ at) × (at < 1024 * (count + 1))
IsCountPlace most count fault = ⊤

-- so many full blocks were counted, no more than are to be, and the fault is one of the block after them
abbrev pub IsStoppedCount : ℕ → CountFault → Type 0
IsStoppedCount most fault = (count : ℕ) × (count ≤ most) × IsCountPlace most count fault
