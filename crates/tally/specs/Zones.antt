-- The clock of the zone that a command line names by a text, or the status where it names none.
use Rattle.std.specs.Prelude.{◌≡◌, List, ℕ, Err, Ok, Result}
use Rattle.std.specs.Process.{exit_status}
use Rattle.std.specs.declared.process.ExitCode.{ExitCode}
use Rattle.tally.specs.Statuses.{zone_status}
use Rattle.tally_clock.specs.Rows.{ClockRows}
use Rattle.tally_zones.specs.Zones.{IsOfText}
use Rattle.tally_zones.specs.declared.zone.ZoneFault.{ZoneFault}

-- what a word gives that names no file: the clock of its rule, or a status by why there is none
abbrev pub IsOfZoneText : List ℕ → Result ClockRows ExitCode → Type 0
IsOfZoneText word (Ok clock) = IsOfText word (Ok clock)
IsOfZoneText word (Err status) = (fault : ZoneFault) × IsOfText word (Err fault) × (exit_status status ≡ zone_status fault)
