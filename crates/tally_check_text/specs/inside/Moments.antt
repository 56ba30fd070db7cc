-- The parts of a moment, and the ranges in which they lie.
use Rattle.std.specs.Prelude.{ℕ, List, [], ◌∷◌, ◌++◌, ℤ, pos, neg_ℤ, ◌+ℤ◌, ◌≤ℤ◌, unsigned_abs}
use Rattle.std.specs.Int.{int_div_euclid, int_rem_euclid}
use Rattle.tally_check_text.specs.Moments.{date}
use Rattle.tally_print.specs.Text.{time_of_day}

-- how far it can be: a clock's 25:59:59 and a question's 23:59
pub record IsAhead (ahead : ℤ) : Type 0 where
  pub low : neg_ℤ (pos 179_939) ≤ℤ ahead
  pub high : ahead ≤ℤ pos 179_939

-- a second that a record can have
pub record IsRecorded (time : ℤ) : Type 0 where
  pub low : neg_ℤ (pos 2_147_483_648) ≤ℤ time
  pub high : time ≤ℤ pos 4_294_967_295

-- the days that such a second can have in local time
pub record IsShownDay (day : ℤ) : Type 0 where
  pub low : neg_ℤ (pos 24_858) ≤ℤ day
  pub high : day ≤ℤ pos 49_712

-- the date of a moment, a mark and its time of day, where local time is so many seconds ahead of UTC
abbrev pub marked_moment : ℤ → ℕ → ℤ → List ℕ
marked_moment time mark ahead =
    date (int_div_euclid (time +ℤ ahead) (pos 86_400)) ++ mark ∷ []
    ++ time_of_day (unsigned_abs (int_rem_euclid (time +ℤ ahead) (pos 86_400)))
