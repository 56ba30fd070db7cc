-- Files that are dealt to feeders by turns, and what the count of each came to.
use Rattle.std.specs.Prelude.{◌≡◌, ◌<◌, ◌+◌, ◌*◌, ◌%◌, ◌/◌, [], ℕ, List, Option, Some, None, ⊤, length, slice_get, slice_index_or}
use Rattle.tally_cli.specs.Runs.{IsReadable}
use Rattle.tally_cli.specs.declared.running.source.Source.{Source}
use Rattle.tally_cli.specs.declared.running.files.Count.{Count}
use Rattle.tally_cli.specs.declared.running.files.Count.TheVariants as count
use Rattle.tally_cli.specs.declared.running.files.FileCount.{FileCount}

-- a file that is not counted
abbrev pub untried : {I S F : Type 0} → Source I → FileCount I S F
untried source = record { source = source; count = count.Untried }

-- the file was counted to its end
abbrev pub HasSums : {S F : Type 0} → Count S F → Type 0
HasSums (count.Sums sums) = ⊤
HasSums c = ⊥

-- the file has a fault
abbrev pub IsFault : {S F : Type 0} → Count S F → Type 0
IsFault (count.Fault found) = ⊤
IsFault c = ⊥

-- the file can be read, and was not counted
pub record IsUncounted {I S F : Type 0} (failures : I → ℕ) (file : FileCount I S F) : Type 0 where
  pub readable : IsReadable failures file.source
  pub untried : file.count ≡ count.Untried

-- the count of a file, if there is one
abbrev pub count_of : {I S F : Type 0} → Option (FileCount I S F) → Count S F
count_of (Some file) = file.count
count_of None = count.Untried

-- the counts of a list of files, by the place of each
abbrev pub counts_of : {I S F : Type 0} → List (FileCount I S F) → ℕ → Count S F
counts_of files place = count_of (slice_get files place)

-- counting stops at a file that has a fault
abbrev pub StopsAtFault : {S F : Type 0} → (ℕ → Count S F) → ℕ → Type 0
StopsAtFault at place = IsFault (at place)

-- the files of a list were counted in order, up to the first at which counting stops
pub record AreCounted {I S F : Type 0} (came : Source I → Count S F → Type 0) (stops : (ℕ → Count S F) → ℕ → Type 0) (old new : List (FileCount I S F)) : Type 0 where
  pub length_is : length new ≡ length old
  pub each : (k : ℕ) (d : FileCount I S F) → k < length old → came (slice_index_or old k d).source (slice_index_or new k d).count
  pub stopped : (k : ℕ) → k < length old → counts_of new k ≡ count.Untried → (j : ℕ) × (j < k) × stops (counts_of new) j

-- once a file has a fault, none after it was tried
abbrev pub StopAtFault : {I S F : Type 0} → List (FileCount I S F) → Type 0
StopAtFault files = (j k : ℕ) (d : FileCount _ _ _) → j < k → k < length files → IsFault (slice_index_or files j d).count → (slice_index_or files k d).count ≡ count.Untried

-- each list was counted so
pub record AreAllCounted {V I S F : Type 0} (came : Source I → Count S F → Type 0) (stops : (ℕ → Count S F) → ℕ → Type 0) (files : V → List (FileCount I S F)) (vs us : List V) : Type 0 where
  pub length_is : length us ≡ length vs
  pub each : (w : ℕ) (d : V) → w < length vs → AreCounted came stops (files (slice_index_or vs w d)) (files (slice_index_or us w d))

-- the file with this number, of files that are dealt to so many lists by turns
abbrev pub file_in : {I S F : Type 0} → ℕ → List (List (FileCount I S F)) → ℕ → Option (FileCount I S F)
file_in feeders lists host = slice_get (slice_index_or lists (host % feeders) []) (host / feeders)

-- the count of the file with this number
abbrev pub count_in : {I S F : Type 0} → ℕ → List (List (FileCount I S F)) → ℕ → Count S F
count_in feeders lists host = count_of (file_in feeders lists host)

-- the lists have a file with this number
abbrev pub IsPlaced : {I S F : Type 0} → ℕ → List (List (FileCount I S F)) → ℕ → Type 0
IsPlaced feeders lists host = host / feeders < length (slice_index_or lists (host % feeders) [])

-- each file is in the lists under its number, and was not counted
abbrev pub AreDealt : {I S F : Type 0} → ℕ → List (Source I) → List (List (FileCount I S F)) → Type 0
AreDealt feeders sources lists = (k : ℕ) (s : Source _) → k < length sources → file_in feeders lists k ≡ Some (untried (slice_index_or sources k s))

-- a file was tried, or counting stopped at one before it of the same feeder
abbrev pub AreExplained : {S F : Type 0} → ((ℕ → Count S F) → ℕ → Type 0) → ℕ → ℕ → (ℕ → Count S F) → Type 0
AreExplained stops feeders files at = (k : ℕ) → k < files → at k ≡ count.Untried
    → (j : ℕ) × (j * feeders + k % feeders < k) × stops (λ place. at (place * feeders + k % feeders)) j
