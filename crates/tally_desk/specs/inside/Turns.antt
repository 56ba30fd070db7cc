-- What one turn of a feed takes from its input.
use Rattle.std.specs.Prelude.{◌≡◌, ◌+◌, ◌*◌, ◌/◌, ◌<◌, ◌≤◌, ℕ, List, [], Option, Some, None, ⊤, drop, length, take}
use Rattle.tally_records.specs.Records.{Records, kind_of, record_count}
use Rattle.tally_records.specs.declared.batch.Kind.{Kind}
use Rattle.tally_desk.specs.Batches.{batch_of, record_size, records_in, stored_kind}
use Rattle.tally_desk.specs.Blocks.{bad_record, block_size, block_fault}
use Rattle.tally_desk.specs.declared.fault.FeedFault.{FeedFault}
use Rattle.tally_desk.specs.declared.fault.FeedFault.TheVariants.{Memory, Read, Torn, TooLong, Bad, LoginsFull, ProcsFull, CallsFull}

-- the fault that bytes give, where their own is `expected`: memory may run out first
abbrev pub Gives : Option FeedFault → FeedFault → Type 0
Gives expected Memory = ⊤
Gives expected Read = ⊥
Gives expected (LoginsFull stored) = ⊥
Gives expected (ProcsFull stored) = ⊥
Gives expected CallsFull = ⊥
Gives expected fault = expected ≡ Some fault

-- why a block of whole records is no batch
abbrev pub IsBatchRefusal : Kind → ℕ → List ℕ → FeedFault → Type 0
IsBatchRefusal kind turn bytes fault = Gives (bad_record turn (batch_of kind bytes)) fault

-- why the bytes of a block are no batch
abbrev pub IsBlockRefusal : ℕ → Kind → ℕ → List ℕ → FeedFault → Type 0
IsBlockRefusal most kind turn bytes fault =
    Gives (block_fault most kind (turn * block_size kind + length bytes) (turn, bytes)) fault

-- why no batch came of these bytes to come
abbrev pub TurnStops : ℕ → Kind → ℕ → List ℕ → FeedFault → Type 0
TurnStops most kind turn rest Memory = ⊤
TurnStops most kind turn rest Read = ⊤
TurnStops most kind turn rest fault = (0 < length rest)
    × Gives (block_fault most kind (turn * block_size kind + length rest)
    (turn, take (block_size kind) rest)) fault

-- the fault is none of the end of what an input may have, and lies in the block after the first `count`, where it names its place
abbrev pub IsInBlock : Kind → ℕ → FeedFault → Type 0
IsInBlock kind count (Torn records rest) =
    (1024 * count ≤ records) × (records < 1024 * (count + 1)) × (0 < rest) × (rest < record_size kind)
IsInBlock kind count (TooLong limit) = ⊥
IsInBlock kind count (Bad at fault) = (1024 * count ≤ at) × (at < 1024 * (count + 1))
IsInBlock kind count fault = ⊤

-- a fault of the reading: no post was refused
abbrev pub IsReadFault : FeedFault → Type 0
IsReadFault (LoginsFull stored) = ⊥
IsReadFault (ProcsFull stored) = ⊥
IsReadFault CallsFull = ⊥
IsReadFault fault = ⊤

-- a batch of some records of the kind in which files of a kind are stored, and not too many
pub record IsBatch (kind : Kind) (batch : Records) : Type 0 where
  pub of_kind : kind_of batch ≡ stored_kind kind
  pub some : 0 < record_count batch
  pub few : record_count batch ≤ 1024

-- the batch is that of the first block of the bytes to come, which is good, and the others are left
pub record TakesBlock (most : ℕ) (kind : Kind) (turn : ℕ) (rest : List ℕ) (left : Option (List ℕ)) (batch : Records) : Type 0 where
  pub some : 0 < length rest
  pub good : block_fault most kind (turn * block_size kind + length rest) (turn, take (block_size kind) rest) ≡ None
  pub batch_is : batch ≡ records_in kind (take (block_size kind) rest)
  pub count : record_count batch ≡ length (take (block_size kind) rest) / record_size kind
  pub left_is : left ≡ Some (drop (block_size kind) rest)

-- a turn took the first block of the bytes to come, or found their end
abbrev pub Takes : ℕ → Kind → ℕ → List ℕ → Option (List ℕ) → Option Records → Type 0
Takes most kind turn rest left None = rest ≡ []
Takes most kind turn rest left (Some batch) = TakesBlock most kind turn rest left batch

-- no batch comes after this one: there is none, or it is not full
abbrev pub IsLast : Option Records → Type 0
IsLast None = ⊤
IsLast (Some batch) = record_count batch < 1024
