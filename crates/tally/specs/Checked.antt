-- A check of files: what is found of each, as it is printed, and whether one of them is doubtful.
use Rattle.std.specs.Prelude.{◌≡◌, ◌+◌, ◌%◌, ◌^◌, ◌++◌, ◌⊎◌, ℕ, ℤ, Bool, List, [], String, length, slice_index_or, string_bytes}
use Rattle.std.specs.List.{flat_map, list_any}
use Rattle.std.specs.declared.alloc.Global.{Global}
use Rattle.tally.specs.Checks.{IsOriginOf, head_text, with_found}
use Rattle.tally.specs.Places.{AllAt, StopsAt}
use Rattle.tally.specs.declared.checking.Checked.{Checked}
use Rattle.tally.specs.declared.checking.NotChecked.{NotChecked}
use Rattle.tally.specs.declared.checking.NotChecked.TheVariants.{Memory, NotOpened, Fault}
use Rattle.tally_check.specs.Findings.{is_doubtful}
use Rattle.tally_check.specs.declared.fault.CheckFault.{CheckFault}
use Rattle.tally_check.specs.declared.fault.CheckFault.TheVariants as check
use Rattle.tally_check_text.specs.declared.origin.Origin.{Origin}
use Rattle.tally_line.specs.declared.line.Check.{Check}

-- what was found of a file, and what is printed of it
pub record Part : Type 0 where
  pub checked : Checked
  pub text : List ℕ

-- the number of the file at a place: files are counted from 1, in 32 bits
abbrev pub number_at : ℕ → ℕ
number_at at = (at + 1) % 2 ^ 32

-- the path of the file at a place, where the list is that long
abbrev pub path_at : List (String Global) → ℕ → String Global → List ℕ
path_at files at other = string_bytes (slice_index_or files at other)

-- what was found of a file is printed so, by its number and its path
pub record IsTextOf (asked : Check) (clock : ℤ → ℤ) (number : ℕ) (path : List ℕ) (part : Part) : Type 0 where
  pub origin : Origin
  pub is_origin : IsOriginOf part.checked.records origin
  pub text : part.text ≡ with_found asked.form asked.paths clock number path origin part.checked.findings []

-- this was found of the file of a path, and is printed so
pub record IsPartOf (finds : List ℕ → Checked → Type 0) (asked : Check) (clock : ℤ → ℤ) (number : ℕ) (path : List ℕ) (part : Part) : Type 0 where
  pub found : finds path part.checked
  pub text : IsTextOf asked clock number path part

-- this is so of the file at a place
abbrev pub IsPartAt : (List ℕ → Checked → Type 0) → Check → (ℤ → ℤ) → ℕ → Part → Type 0
IsPartAt finds asked clock at part = (other : String Global) → IsPartOf finds asked clock (number_at at) (path_at asked.files.items at other) part

-- this is why the file at a place was not checked
abbrev pub IsNotCheckedAt : (List ℕ → NotChecked → Type 0) → Check → ℕ → NotChecked → Type 0
IsNotCheckedAt refuses asked at fault = (other : String Global) → refuses (path_at asked.files.items at other) fault

-- what was found of a file makes totals doubtful
abbrev pub is_doubtful_part : Part → Bool
is_doubtful_part part = is_doubtful part.checked.findings.content

-- a text was extended by what was found of the file at a place
pub record IsWithPart (finds : List ℕ → Checked → Type 0) (asked : Check) (clock : ℤ → ℤ) (at : ℕ) (old new : List ℕ) (checked : Checked) : Type 0 where
  pub text : List ℕ
  pub is_part : IsPartAt finds asked clock at (record { checked = checked; text = text })
  pub grown : new ≡ old ++ text

-- a text was extended by what is found of all files that are asked for, and this says whether one of them is doubtful
pub record IsWithParts (finds : List ℕ → Checked → Type 0) (asked : Check) (clock : ℤ → ℤ) (old new : List ℕ) (doubtful : Bool) : Type 0 where
  pub parts : List Part
  pub count : length parts ≡ length asked.files.items
  pub each : AllAt (IsPartAt finds asked clock) parts
  pub grown : new ≡ (old ++ head_text asked.form asked.paths) ++ flat_map (λ part. part.text) parts
  pub doubt : doubtful ≡ list_any is_doubtful_part parts

-- memory was wanting, or this is why the first file that could not be checked was not
abbrev pub IsFirstNotChecked : (List ℕ → Checked → Type 0) → (List ℕ → NotChecked → Type 0) → Check → (ℤ → ℤ) → NotChecked → Type 0
IsFirstNotChecked finds refuses asked clock fault =
    (fault ≡ Memory) ⊎ ((before : List Part) × StopsAt (IsPartAt finds asked clock) (IsNotCheckedAt refuses asked) (length asked.files.items) before fault)

-- a fault is want of memory, or one of the file of this path
abbrev pub IsOfPath : List ℕ → NotChecked → Type 0
IsOfPath path Memory = Unit {0}
IsOfPath path (NotOpened named) = named.now ≡ path
IsOfPath path (Fault named fault) = (named.now ≡ path) × ¬ (fault ≡ check.Memory)

-- what a check of the file of this path said is told by a fault
abbrev pub TellsFault : List ℕ → CheckFault → NotChecked → Type 0
TellsFault path said Memory = said ≡ check.Memory
TellsFault path said (NotOpened named) = ⊥
TellsFault path said (Fault named fault) = (named.now ≡ path) × (fault ≡ said)
