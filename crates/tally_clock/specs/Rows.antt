-- How far a clock is ahead of UTC, by rows that each hold from a second on.
use Rattle.std.specs.Prelude.{ℕ, ℤ, pos, ◌+◌, ◌-◌, ◌<◌, ◌<ℤ◌, ◌==◌, int_le, List, [], get_or, length, if◌then◌else◌}
use Rattle.std.specs.List.{prefix_len}
use Rattle.jiff_core.specs.declared.Offset.{Offset}
use Rattle.jiff_tz.specs.Zone.{utc_offset}
use Rattle.tally_clock.specs.declared.row.Row.{Row}

-- what a clock is seen as: the offset before its first row, and its rows
pub record ClockRows : Type 0 where
  pub first : Offset
  pub rows : List Row

-- a stand-in for a place past the last row
abbrev pub no_row : Row
no_row = record { from = pos 0; offset = utc_offset }

-- the row at a place
abbrev pub row_at : List Row → ℕ → Row
row_at rows i = get_or rows i no_row

-- how many rows have begun at a second
abbrev pub count_at : List Row → ℤ → ℕ
count_at rows time = prefix_len (λ r. int_le r.from time) rows

-- the offset after that many rows
abbrev pub offset_after : Offset → List Row → ℕ → Offset
offset_after first rows count = if count == 0 then first else (row_at rows (count - 1)).offset

-- the offset at a second, in seconds east of UTC
abbrev pub offset_in : Offset → List Row → ℤ → ℤ
offset_in first rows time = (offset_after first rows (count_at rows time)).seconds

-- the same of a clock
abbrev pub offset_at : ClockRows → ℤ → ℤ
offset_at clock time = offset_in clock.first clock.rows time

-- the clock of UTC
abbrev pub utc : ClockRows
utc = record { first = utc_offset; rows = [] }

-- each row begins after the one before it
abbrev pub IsRising : List Row → Type 0
IsRising rows = (i : ℕ) → i + 1 < length rows → (row_at rows i).from <ℤ (row_at rows (i + 1)).from

-- every row begins before a second
abbrev pub IsBefore : List Row → ℤ → Type 0
IsBefore rows time = (i : ℕ) → i < length rows → (row_at rows i).from <ℤ time
