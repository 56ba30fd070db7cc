-- Lists that are made item by item, until one is refused.
use Rattle.std.specs.Prelude.{◌<◌, ℕ, List, length, slice_index_or}

-- each item is what is asked of its place
abbrev pub AllAt : {A : Type 0} → (ℕ → A → Type 0) → List A → Type 0
AllAt is items = (k : ℕ) (item : _) → k < length items → is k (slice_index_or items k item)

-- of so many places, one was refused for this fault, and these are the items of those before it
pub record StopsAt {A F : Type 0} (is : ℕ → A → Type 0) (refuses : ℕ → F → Type 0) (count : ℕ) (before : List A) (fault : F) : Type 0 where
  pub made : AllAt is before
  pub within : length before < count
  pub refused : refuses (length before) fault
