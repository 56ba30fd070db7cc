-- The fields of a clock.
use Rattle.std.specs.Prelude.{◌≤◌, vec_len}
use Rattle.tally_clock.specs.declared.clock.Clock.TheInside.{Inside}
use Rattle.tally_clock.specs.declared.clock.TheConstants.{ROW_LIMIT}
use Rattle.tally_clock.specs.Rows.{ClockRows, IsRising}

-- what contracts see
abbrev pub rows_of : Inside → ClockRows
rows_of c = record { first = c.first; rows = c.rows.items }

-- what every clock keeps
pub record IsSound (c : Inside) : Type 0 where
  pub rising : IsRising c.rows.items
  pub few : vec_len c.rows ≤ ROW_LIMIT
