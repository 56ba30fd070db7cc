-- Rules of POSIX: what a text says, as `jiff_tz` reads it, and what a clock of it shows.
use Rattle.std.specs.Prelude.{◌≡◌, ℕ, ℤ, List, None, Some, ⊤}
use Rattle.jiff_core.specs.Timestamp.{nanos_of_seconds}
use Rattle.jiff_tz.specs.declared.posix.TimeZone.{TimeZone as Rule}
use Rattle.jiff_tz.specs.PosixReader.{read_whole}
use Rattle.jiff_tz.specs.PosixRule as Posix
use Rattle.jiff_tz.specs.PosixText.{tz_view}
use Rattle.tally_clock.specs.Rows.{ClockRows, offset_at}
use Rattle.tally_clock.specs.Time.{IsTime}
use Rattle.tally_clock.specs.Zones.{ChangesOften}
use Rattle.tally_clock.specs.declared.clock.TheConstants.{ROW_LIMIT}
use Rattle.tally_clock.specs.declared.rule.RuleFault.{RuleFault}
use Rattle.tally_clock.specs.declared.rule.RuleFault.TheVariants as fault
use Rattle.tally_clock.specs.declared.zone.ClockFault.{ClockFault}
use Rattle.tally_clock.specs.declared.zone.ClockFault.TheVariants as clock

-- the offset of a rule at a second
abbrev pub rule_offset : Rule → ℤ → ℤ
rule_offset rule time = (Posix.offset_at rule (nanos_of_seconds time)).seconds

-- a clock that has a rule's offset at each second that a record can have
abbrev pub ShowsRule : Rule → ClockRows → Type 0
ShowsRule rule clock = (time : ℤ) → IsTime time → offset_at clock time ≡ rule_offset rule time

-- the clock of a rule's text
pub record IsClockOfRule (text : List ℕ) (clock : ClockRows) : Type 0 where
  pub rule : Rule
  pub read : read_whole text ≡ Some (tz_view rule)
  pub shows : ShowsRule rule clock

-- why a text gives no clock
abbrev pub RefusesRule : List ℕ → RuleFault → Type 0
RefusesRule text fault.Memory = ⊤
RefusesRule text fault.NoRule = read_whole text ≡ None
RefusesRule text fault.Long = (rule : Rule) × (read_whole text ≡ Some (tz_view rule)) × ChangesOften ROW_LIMIT (rule_offset rule)

-- the same fault, of a rule
abbrev pub of_clock_fault : ClockFault → RuleFault
of_clock_fault clock.Memory = fault.Memory
of_clock_fault clock.Long = fault.Long
