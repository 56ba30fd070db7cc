-- The text of a report of connect times, as ac(1) prints it.
use Rattle.std.specs.Prelude.{ℕ, List, [], ◌++◌, flat_map, ℤ, codes, Option, Some, None}
use Rattle.tally_answers.specs.declared.question.ConnectRow.{ConnectRow}
use Rattle.tally_print.specs.Text.{shown, left, right, hours, date}

-- the date of a row that has a day, and a blank
abbrev pub day_column : Option ℤ → List ℕ
day_column None = []
day_column (Some day) = date day ++ codes " "

-- the user of a row, or the word for all users
abbrev pub user_column : Option (List ℕ) → List ℕ
user_column None = codes "total"
user_column (Some user) = shown user

-- the line of a row: day, user and hours
unfoldable pub connect_line : ConnectRow → List ℕ
connect_line row =
    day_column row.day ++ left (user_column row.user) 20 ++ codes " "
    ++ right (hours row.seconds) 12 ++ codes "\n"

-- a line for each row, and the line of the total
abbrev pub connect_text : List ConnectRow → ℕ → List ℕ
connect_text rows total =
    flat_map connect_line rows
    ++ connect_line (record { day = None; user = None; seconds = total })
