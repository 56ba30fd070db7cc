-- Spans of local seconds, where each day has 86,400. Day 0 begins at second 0.
use Rattle.std.specs.Prelude.{ℕ, ℤ, pos, neg_ℤ, ◌+ℤ◌, ◌-ℤ◌, ◌*ℤ◌, ◌≤ℤ◌}
use Rattle.std.specs.Int.{int_div_euclid, int_max, int_min}
use Rattle.tally_clock.specs.Days.{seconds_between}

-- when a day begins
abbrev pub day_start : ℤ → ℤ
day_start day = pos 86400 *ℤ day

-- the day of a local second, rounded down
unfoldable pub span_day : ℤ → ℤ
span_day time = int_div_euclid time (pos 86400)

-- the seconds that a day has of a span
unfoldable pub span_on : ℤ → ℤ → ℤ → ℕ
span_on day begin end_time = seconds_between (int_max begin (day_start day)) (int_min end_time (day_start (day +ℤ pos 1)))

-- how many seconds more a day has of a span than the day before it
abbrev pub span_change : ℤ → ℤ → ℤ → ℤ
span_change day begin end_time = pos (span_on day begin end_time) -ℤ pos (span_on (day -ℤ pos 1) begin end_time)

-- the local seconds of the days that a time can have
pub record IsLocal (time : ℤ) : Type 0 where
  pub low : neg_ℤ (pos 2147731200) ≤ℤ time
  pub high : (time +ℤ pos 1) ≤ℤ pos 2147731200
