-- Where a name ends among 16 bytes.
use Rattle.std.specs.Prelude.{ℕ, ◌==◌, if◌then◌else◌}
use Rattle.std.specs.Int.{w64, trailing_zeros}

-- the place of the lowest bit, or 16 where there is none
abbrev pub lowest_bit : ℕ → ℕ
lowest_bit mask = if mask == 0 then 16 else trailing_zeros w64 mask
