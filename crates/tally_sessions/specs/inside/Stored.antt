-- How batches stand for stored entries.
use Rattle.std.specs.Arc.{arc_value}
use Rattle.std.specs.List.{flat_map}
use Rattle.std.specs.Prelude.{◌≡◌, ◌≤◌, ◌<◌, ◌+◌, ◌-◌, ◌*◌, ℕ, List, Some, get_or, length, slice_get, take}
use Rattle.tally_sessions.specs.declared.entries.batches.StoredBatch.{StoredBatch}
use Rattle.tally_sessions.specs.declared.entries.batches.TheConstants.{ENTRIES_FOR_A_MARK}
use Rattle.tally_sessions.specs.declared.entries.list.EntryList.TheInside.{Inside}
use Rattle.tally_sessions.specs.declared.entry.Entry.{Entry}
use Rattle.tally_sessions.specs.declared.sessions.TheConstants.{ENTRY_LIMIT}
use Rattle.tally_sessions.specs.Hosts.{posted_by}
use Rattle.tally_sessions.specs.inside.Entries.{entry_at}

-- the entries of a batch
abbrev pub entries_of : StoredBatch → List Entry
entries_of b = posted_by b.host (take b.count (arc_value b.records))

-- the entries of all batches
abbrev pub all_of : List StoredBatch → List Entry
all_of batches = flat_map entries_of batches

-- how many entries stand before a batch
abbrev pub count_before : List StoredBatch → ℕ → ℕ
count_before batches k = length (all_of (take k batches))

-- a batch knows where it stands
pub record IsPlaced (batches : List StoredBatch) (k : ℕ) (b : StoredBatch) : Type 0 where
  pub first : b.first ≡ count_before batches k
  pub stored : b.count ≤ length (arc_value b.records)

-- a mark names a batch that begins at its place or earlier
pub record IsMark (batches : List StoredBatch) (j mark : ℕ) : Type 0 where
  pub names : mark < length batches
  pub early : count_before batches mark ≤ ENTRIES_FOR_A_MARK * j

-- batches that know where they stand, and marks for all their entries
pub record AreMarked (batches : List StoredBatch) (marks : List ℕ) : Type 0 where
  pub placed : (k : ℕ) (d : StoredBatch) → k < length batches → IsPlaced batches k (get_or batches k d)
  pub mark : (j : ℕ) → j < length marks → IsMark batches j (get_or marks j 0)
  pub reach : length (all_of batches) ≤ ENTRIES_FOR_A_MARK * length marks

-- the entry at a place is of the batch of this number
pub record IsBatchOf (batches : List StoredBatch) (at k : ℕ) : Type 0 where
  pub names : k < length batches
  pub from : count_before batches k ≤ at
  pub to : at < count_before batches (k + 1)

-- the list holds the entries of a batch from its first on
pub record Holds (es : List Entry) (b : StoredBatch) : Type 0 where
  pub within : b.first + b.count ≤ length es
  pub host : (i : ℕ) → b.first ≤ i → i < b.first + b.count → (entry_at es i).host ≡ b.host
  pub item : (i : ℕ) → b.first ≤ i → i < b.first + b.count → slice_get (arc_value b.records) (i - b.first) ≡ Some (entry_at es i).item

-- the entries that the fields stand for
abbrev pub kept : Inside → List Entry
kept a = all_of a.batches.items

-- what the fields keep
pub record IsSound (a : Inside) : Type 0 where
  pub count : a.count ≡ length (kept a)
  pub few : a.count ≤ ENTRY_LIMIT
  pub marked : AreMarked a.batches.items a.marks.items
