-- Local time as a clock.
use Rattle.std.specs.Prelude.{ℤ}
use Rattle.tally_check_text.specs.declared.local.Local.{Local}
use Rattle.tally_sessions.specs.Days.{local}

-- how far local time is ahead of UTC at each second, in seconds
abbrev pub clock_of : Local → ℤ → ℤ
clock_of here = local here.clock.now here.offset
