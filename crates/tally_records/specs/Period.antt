-- Parts of time, in seconds since 1970.
use Rattle.std.specs.Prelude.{ℤ, Bool, true, false, not, ◌&&◌, Option, Some, None, int_le, is_some}
use Rattle.tally_records.specs.declared.period.Period.{Period}

-- a second is not before the beginning
abbrev pub has_begun : Option ℤ → ℤ → Bool
has_begun None time = true
has_begun (Some from) time = int_le from time

-- a second is at the end or after it
abbrev pub is_over : Option ℤ → ℤ → Bool
is_over None time = false
is_over (Some to) time = int_le to time

-- a second is in a period: from its beginning on, and before its end
abbrev pub is_within : Period → ℤ → Bool
is_within period time = has_begun period.from time && not (is_over period.to time)

-- all time
abbrev pub always : Period
always = record { from = None; to = None }

-- a period has neither a beginning nor an end
abbrev pub is_always : Period → Bool
is_always period = not (is_some period.from) && not (is_some period.to)
