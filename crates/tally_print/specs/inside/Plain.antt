-- Bytes that are printed as they are, and so stand in a line and in a field of a table alike.
use Rattle.std.specs.Prelude.{◌≡◌, ℕ, ◌+◌, ◌<◌, ◌≤◌, Bool, false, ◌||◌, ◌==◌, nat_lt, List, if◌then◌else◌, slice_index}
use Rattle.std.specs.Int.{w64, trailing_zeros}

-- a byte that is printed otherwise or not at all, or is a mark of the format of tables
abbrev pub is_unusual : ℕ → Bool
is_unusual b = nat_lt b 0x20 || nat_lt 0x7E b || b == 44 || b == 34

-- no byte from `at` up to `end` is unusual
abbrev pub ArePlain : List ℕ → ℕ → ℕ → Type 0
ArePlain field at end = (k : ℕ) → at ≤ k → k < end → is_unusual (slice_index field k) ≡ false

-- so many bytes of the 16 from `at` on are plain
abbrev pub IsRun : List ℕ → ℕ → ℕ → Type 0
IsRun field at run = (run ≤ 16) × ArePlain field at (at + run)

-- the place of the lowest bit, or 16 where there is none
abbrev pub lowest_bit : ℕ → ℕ
lowest_bit mask = if mask == 0 then 16 else trailing_zeros w64 mask
