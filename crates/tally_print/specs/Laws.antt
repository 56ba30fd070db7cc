-- A law of moments and their days.
use Rattle.std.specs.Prelude.{◌≡◌, ◌++◌, ◌+ℤ◌, ℤ, codes, pos, unsigned_abs}
use Rattle.std.specs.Int.{int_rem_euclid}
use Rattle.tally_clock.specs.Days.{day_of}
use Rattle.tally_print.specs.Text.{date, moment, time_of_day}

-- on every clock a moment is printed with the date of its day, the one under which its second is counted, and with its time on that day
abbrev pub MomentsHaveTheirDays : Type 0
MomentsHaveTheirDays = (clock : ℤ → ℤ) (time : ℤ)
    → moment time clock ≡ date (day_of clock time) ++ codes " " ++ time_of_day (unsigned_abs (int_rem_euclid (time +ℤ clock time) (pos 86_400)))
