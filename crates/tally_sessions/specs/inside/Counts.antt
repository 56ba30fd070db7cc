-- Sessions that go on over whole rows of a clock: for these only how many more of them go on from the start of each row is kept.
use Rattle.std.specs.Prelude.{ℕ, zero, suc, ◌+◌, ◌^◌, ℤ, pos, ◌+ℤ◌, ◌-ℤ◌, ◌*ℤ◌, List, get_or, unsigned_abs}
use Rattle.tally_clock.specs.Days.{seconds_on}
use Rattle.tally_clock.specs.Rows.{no_row}
use Rattle.tally_clock.specs.declared.row.Row.{Row}

-- a row after all times that records can have
abbrev pub row_after_all : Row
row_after_all = record { from = pos (2 ^ 31); offset = no_row.offset }

-- when a row begins, or a second after all times for a place past the last row
abbrev pub start_of : List Row → ℕ → ℤ
start_of rows row = (get_or rows row row_after_all).from

-- the seconds that a day has from the start of a row on
abbrev pub seconds_since : (ℤ → ℤ) → List Row → ℤ → ℕ → ℕ
seconds_since clock rows day row = seconds_on clock day (start_of rows row) (pos (2 ^ 31))

-- how many more than the day before it
abbrev pub change_since : (ℤ → ℤ) → List Row → ℤ → ℕ → ℤ
change_since clock rows day row = pos (seconds_since clock rows day row) -ℤ pos (seconds_since clock rows (day -ℤ pos 1) row)

-- what the counts of so many rows stand for, where each counts a change from its row on
unfoldable pub stand_for : (ℕ → ℤ) → (ℕ → ℤ) → ℕ → ℤ
stand_for count change zero = pos 0
stand_for count change (suc n) = stand_for count change n +ℤ count n *ℤ change n

-- how large the counts of so many rows are, whatever their signs
unfoldable pub size_of : (ℕ → ℤ) → ℕ → ℕ
size_of count zero = 0
size_of count (suc n) = size_of count n + unsigned_abs (count n)
