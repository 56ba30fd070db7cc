-- The two parts of a moment.
use Rattle.std.specs.Prelude.{ℕ, List, [], ◌∷◌, ◌++◌, ℤ, pos, ◌+ℤ◌, unsigned_abs}
use Rattle.std.specs.Int.{int_div_euclid, int_rem_euclid}
use Rattle.tally_print.specs.Text.{date, time_of_day}

-- the date of a moment, a mark and its time of day, where local time is so many seconds ahead of UTC
abbrev pub marked_moment : ℤ → ℕ → ℤ → List ℕ
marked_moment time mark ahead =
    date (int_div_euclid (time +ℤ ahead) (pos 86_400)) ++ mark ∷ []
    ++ time_of_day (unsigned_abs (int_rem_euclid (time +ℤ ahead) (pos 86_400)))
