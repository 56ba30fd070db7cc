-- Why a zone without a clock gives none to its file or its rule.
use Rattle.std.proofs.Common.{◌≡◌, ◌≤◌, ℕ, List, Some, length, refl}
use Rattle.jiff_tz.specs.declared.posix.TimeZone.{TimeZone as Rule}
use Rattle.jiff_tz.specs.declared.tzif.Tzif.{Tzif}
use Rattle.jiff_tz.specs.PosixReader.{read_whole}
use Rattle.jiff_tz.specs.PosixText.{tz_view}
use Rattle.tally_clock.specs.Files as files
use Rattle.tally_clock.specs.Files.{IsClockOfFile, IsTableOf, RefusesFile, ShowsTable, leap_count, table_offset}
use Rattle.tally_clock.specs.Rows.{ClockRows}
use Rattle.tally_clock.specs.Rules as rules
use Rattle.tally_clock.specs.Rules.{RefusesRule, rule_offset}
use Rattle.tally_clock.specs.Zones.{ChangesOften}
use Rattle.tally_clock.specs.declared.clock.TheConstants.{ROW_LIMIT}
use Rattle.tally_clock.specs.declared.file.TheConstants.{FILE_LIMIT}
use Rattle.tally_clock.specs.declared.zone.ClockFault.{ClockFault}
use Rattle.tally_clock.specs.declared.zone.ClockFault.TheVariants.{Memory, Long}

pub clock_is_of_file : (bytes : List ℕ) (table : Tzif) (clock : ClockRows) → length bytes ≤ FILE_LIMIT → leap_count bytes ≡ 0 → IsTableOf bytes table → ShowsTable table clock → IsClockOfFile bytes clock
clock_is_of_file bytes table clock small none holds shows = record { small = small; no_leap_seconds = none; table = table; holds = holds; shows = shows }

pub file_refused : (bytes : List ℕ) (found : ClockFault) (table : Tzif) → length bytes ≤ FILE_LIMIT → IsTableOf bytes table
    → (found ≡ Long → ChangesOften ROW_LIMIT (table_offset table)) → RefusesFile bytes (files.of_clock_fault found)
file_refused bytes Memory table small holds often = tt
file_refused bytes Long table small holds often = (small, (table, holds, often refl))

pub rule_refused : (text : List ℕ) (found : ClockFault) (rule : Rule) → read_whole text ≡ Some (tz_view rule)
    → (found ≡ Long → ChangesOften ROW_LIMIT (rule_offset rule)) → RefusesRule text (rules.of_clock_fault found)
rule_refused text Memory rule read often = tt
rule_refused text Long rule read often = (rule, read, often refl)
