-- The blocks of an input, its first fault, and the good blocks before it.
use Rattle.std.specs.Prelude.{◌==◌, ◌+◌, ◌*◌, ◌/◌, ◌%◌, ℕ, List, Option, Some, None, Result, Err, not, nat_le, if◌then◌else◌, is_none, length, map, slice_get, take, unwrap_or}
use Rattle.std.specs.List.{enumerate_from, filter_map, take_while}
use Rattle.std.specs.Simd.{first_chunks}
use Rattle.std.specs.Slice.Iter.{chunk_count}
use Rattle.tally_records.specs.Records.{Records}
use Rattle.tally_records.specs.declared.fault.BatchFault.{BatchFault}
use Rattle.tally_records.specs.declared.fault.BatchFault.TheVariants as batch
use Rattle.tally_records.specs.declared.batch.Kind.{Kind}
use Rattle.tally_records.specs.declared.batch.Kind.TheVariants.{Login, FailedLogin, Proc}
use Rattle.tally_desk.specs.Batches.{batch_of, record_size}
use Rattle.tally_desk.specs.declared.fault.FeedFault.{FeedFault}
use Rattle.tally_desk.specs.declared.fault.FeedFault.TheVariants.{Torn, TooLong, Bad}

-- bytes cut into pieces of a size, the last one shorter where need be
unfoldable pub pieces : ℕ → List ℕ → List (List ℕ)
pieces size bytes = first_chunks size (chunk_count (length bytes) size) bytes

-- how many bytes a full block has
abbrev pub block_size : Kind → ℕ
block_size kind = 1024 * record_size kind

-- the blocks of an input
abbrev pub blocks : Kind → List ℕ → List (List ℕ)
blocks kind bytes = pieces (block_size kind) bytes

-- the first bad record of a block with a number, under its own number in the input
abbrev pub bad_record : ℕ → Result Records BatchFault → Option FeedFault
bad_record number (Err (batch.Bad index fault)) = Some (Bad (1024 * number + index) fault)
bad_record number outcome = None

-- the whole records that bytes begin with
abbrev pub whole_records : Kind → List ℕ → List ℕ
whole_records kind bytes = take (length bytes / record_size kind * record_size kind) bytes

-- the bad record that is named in the place of a torn end: of failed logins the first one before it
abbrev pub fault_before_end : Kind → ℕ × List ℕ → Option FeedFault
fault_before_end Login numbered = None
fault_before_end FailedLogin numbered = bad_record numbered.0 (batch_of FailedLogin (whole_records FailedLogin numbered.1))
fault_before_end Proc numbered = None

-- the fault of a numbered block that ends inside a record, where the input has `total` bytes
abbrev pub torn_fault : Kind → ℕ → ℕ × List ℕ → FeedFault
torn_fault kind total numbered =
    unwrap_or (fault_before_end kind numbered) (Torn (total / record_size kind) (total % record_size kind))

-- why a numbered block is refused of an input of `total` bytes that may have so many full blocks
abbrev pub block_fault : ℕ → Kind → ℕ → ℕ × List ℕ → Option FeedFault
block_fault most kind total numbered =
    if nat_le most numbered.0 then Some (TooLong (1024 * most))
    else (if not (length numbered.1 % record_size kind == 0)
    then Some (torn_fault kind total numbered)
    else bad_record numbered.0 (batch_of kind numbered.1))

-- the blocks of an input with their numbers
abbrev pub numbered_blocks : Kind → List ℕ → List (ℕ × List ℕ)
numbered_blocks kind bytes = enumerate_from 0 (blocks kind bytes)

-- the fault of the first block that has one, of an input that may have so many full blocks
abbrev pub feed_fault : ℕ → Kind → List ℕ → Option FeedFault
feed_fault most kind bytes =
    slice_get (filter_map (block_fault most kind (length bytes)) (numbered_blocks kind bytes)) 0

-- the blocks before that one, or all
abbrev pub good_blocks : ℕ → Kind → List ℕ → List (List ℕ)
good_blocks most kind bytes = map (λ numbered. numbered.1)
    (take_while (λ numbered. is_none (block_fault most kind (length bytes) numbered))
    (numbered_blocks kind bytes))
