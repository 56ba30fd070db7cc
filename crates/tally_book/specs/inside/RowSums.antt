-- The seconds of rows of connect times.
use Rattle.std.specs.Prelude.{◌≡◌, ◌<◌, ◌^◌, ℕ, List, sum_by}
use Rattle.tally_answers.specs.declared.question.ConnectRow.{ConnectRow}

-- the seconds of rows
abbrev pub seconds_of : List ConnectRow → ℕ
seconds_of rows = sum_by (λ row. row.seconds) rows

-- rows have so many seconds, and few enough to be summed
pub record AddUpTo (seconds : ℕ) (rows : List ConnectRow) : Type 0 where
  pub sum : seconds_of rows ≡ seconds
  pub fits : seconds_of rows < 2 ^ 56
