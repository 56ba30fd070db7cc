-- Local time as a clock.
use Rattle.std.specs.Prelude.{ℤ, pos, neg_ℤ, ◌≤ℤ◌}
use Rattle.tally_sessions.specs.Days.{local}
use Rattle.tally_print.specs.declared.local.Local.{Local}

-- how far local time is ahead of UTC at each second, in seconds
abbrev pub clock_of : Local → ℤ → ℤ
clock_of here = local here.clock.now here.offset

-- how far it can be: a clock's 25:59:59 and a question's 23:59
pub record IsAhead (ahead : ℤ) : Type 0 where
  pub low : neg_ℤ (pos 179_939) ≤ℤ ahead
  pub high : ahead ≤ℤ pos 179_939
