-- The offset of a zone at a second.
use Rattle.std.specs.Prelude.{ℕ, ℤ, pos, ◌-ℤ◌, ◌≡◌, ◌≢◌, ◌<◌, List, length}
use Rattle.jiff_core.specs.Timestamp.{nanos_of_seconds}
use Rattle.jiff_tz.specs.declared.timezone.TimeZone.{TimeZone}
use Rattle.jiff_tz.specs.Zone as Zone
use Rattle.tally_clock.specs.Rows.{ClockRows, IsRising, offset_at, row_at}
use Rattle.tally_clock.specs.declared.row.Row.{Row}
use Rattle.tally_clock.specs.Time.{IsTime}

-- the offset of a zone at a second, in seconds east of UTC
abbrev pub zone_offset : TimeZone → ℤ → ℤ
zone_offset zone time = Zone.offset_at zone (nanos_of_seconds time)

-- a clock that is a zone's at each second that a record can have
abbrev pub ShowsZone : TimeZone → ClockRows → Type 0
ShowsZone zone clock = (time : ℤ) → IsTime time → offset_at clock time ≡ zone_offset zone time

-- an offset is another than a second before
pub record ChangesAt (offset : ℤ → ℤ) (time : ℤ) : Type 0 where
  pub from : IsTime (time -ℤ pos 1)
  pub at : IsTime time
  pub other : offset (time -ℤ pos 1) ≢ offset time

-- the rows are of rising seconds at which it changes
pub record AreChanges (offset : ℤ → ℤ) (rows : List Row) : Type 0 where
  pub rising : IsRising rows
  pub change : (i : ℕ) → i < length rows → ChangesAt offset (row_at rows i).from

-- it changes at more seconds than so many
abbrev pub ChangesOften : ℕ → (ℤ → ℤ) → Type 0
ChangesOften most offset = (rows : List Row) × (most < length rows) × AreChanges offset rows
