-- The exit statuses of the program: 0, and 1 for a fault of memory, a file or the output, 2 for a refused command line, and 3 where a check
-- finds something doubtful.
use Rattle.std.specs.Prelude.{◌<◌, ◌≤◌, ℕ}
use Rattle.std.specs.Process.{exit_status}
use Rattle.std.specs.declared.process.ExitCode.{ExitCode}
use Rattle.tally_zones.specs.declared.zone.ZoneFault.{ZoneFault}
use Rattle.tally_zones.specs.declared.zone.ZoneFault.TheVariants.{Memory, Mistaken, NoZone, NotFound}

-- a fault, or a refused command line
pub record IsRefusal (status : ExitCode) : Type 0 where
  pub above : 0 < exit_status status
  pub below : exit_status status ≤ 2

-- a word that names no zone is a fault, and one that is a mistaken offset is refused
abbrev pub zone_status : ZoneFault → ℕ
zone_status Memory = 1
zone_status NotFound = 1
zone_status NoZone = 1
zone_status Mistaken = 2
