-- Time zone files (TZif, RFC 9636): what bytes hold, as `jiff_tz` reads them, and what a clock of them shows.
use Rattle.std.specs.Prelude.{◌≡◌, ◌⊎◌, ◌==◌, ◌<◌, ◌≤◌, ◌+◌, ◌*◌, ℕ, ℤ, Err, List, Ok, ⊤, length, slice_index, if◌then◌else◌}
use Rattle.jiff_core.specs.Timestamp.{nanos_of_seconds}
use Rattle.jiff_core.specs.declared.error.TzifFault.{TzifFault}
use Rattle.jiff_tz.specs.declared.tzif.Tzif.{Tzif}
use Rattle.jiff_tz.specs.Tzif.{HasBadRule, RuleAgrees, tzif_view}
use Rattle.jiff_tz.specs.Tzif as Table
use Rattle.jiff_tz.specs.TzifReader.{be_u32, header_at, read_tzif}
use Rattle.tally_clock.specs.Rows.{ClockRows, offset_at}
use Rattle.tally_clock.specs.Time.{IsTime}
use Rattle.tally_clock.specs.Zones.{ChangesOften}
use Rattle.tally_clock.specs.declared.clock.TheConstants.{ROW_LIMIT}
use Rattle.tally_clock.specs.declared.file.FileFault.{FileFault}
use Rattle.tally_clock.specs.declared.file.FileFault.TheVariants as fault
use Rattle.tally_clock.specs.declared.zone.ClockFault.{ClockFault}
use Rattle.tally_clock.specs.declared.zone.ClockFault.TheVariants as clock
use Rattle.tally_clock.specs.declared.file.TheConstants.{FILE_LIMIT}

-- the table that bytes hold
pub record IsTableOf (bytes : List ℕ) (table : Tzif) : Type 0 where
  pub read : read_tzif bytes ≡ Ok (tzif_view table)
  pub agrees : RuleAgrees table

-- no table: a fault of the format, or a rule that its table contradicts
abbrev pub HoldsNoTable : List ℕ → Type 0
HoldsNoTable bytes = ((f : TzifFault) × (read_tzif bytes ≡ Err f)) ⊎ HasBadRule (read_tzif bytes)

-- where the first block ends: a header of 44 bytes, times of four bytes with their types, the types,
-- their names, leap seconds of eight bytes, and two kinds of flags
abbrev pub first_block_end : List ℕ → ℕ
first_block_end bytes =
    let h = header_at 4 bytes in
    44 + h.time_count * 5 + h.type_count * 6 + h.char_count + h.leap_count * 8 + h.std_count + h.utc_count

-- where the header that counts begins: from version 2 on it is the second
abbrev pub header_start : List ℕ → ℕ
header_start bytes = if slice_index bytes 4 == 0 then 0 else first_block_end bytes

-- how many leap seconds the header that counts announces
abbrev pub leap_count : List ℕ → ℕ
leap_count bytes = be_u32 bytes (header_start bytes + 28)

-- the offset of a table at a second
abbrev pub table_offset : Tzif → ℤ → ℤ
table_offset table time = (Table.offset_at table (nanos_of_seconds time)).seconds

-- a clock that has a table's offset at each second that a record can have
abbrev pub ShowsTable : Tzif → ClockRows → Type 0
ShowsTable table clock = (time : ℤ) → IsTime time → offset_at clock time ≡ table_offset table time

-- the clock of a file
pub record IsClockOfFile (bytes : List ℕ) (clock : ClockRows) : Type 0 where
  pub small : length bytes ≤ FILE_LIMIT
  pub no_leap_seconds : leap_count bytes ≡ 0
  pub table : Tzif
  pub holds : IsTableOf bytes table
  pub shows : ShowsTable table clock

-- the same fault, of a file
abbrev pub of_clock_fault : ClockFault → FileFault
of_clock_fault clock.Memory = fault.Memory
of_clock_fault clock.Long = fault.Long

-- why the bytes of a file give no clock
abbrev pub RefusesFile : List ℕ → FileFault → Type 0
RefusesFile bytes fault.Memory = ⊤
RefusesFile bytes fault.Large = FILE_LIMIT < length bytes
RefusesFile bytes fault.NoZone = (length bytes ≤ FILE_LIMIT) × HoldsNoTable bytes
RefusesFile bytes fault.LeapSeconds = (length bytes ≤ FILE_LIMIT) × (0 < leap_count bytes)
RefusesFile bytes fault.Long = (length bytes ≤ FILE_LIMIT) × ((table : Tzif) × IsTableOf bytes table × ChangesOften ROW_LIMIT (table_offset table))
