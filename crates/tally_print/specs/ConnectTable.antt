-- Connect times as a table: days as dates, users as printed, whole seconds.
use Rattle.std.specs.Prelude.{ℕ, Bool, List, [], ◌∷◌, ◌++◌, ℤ, codes, decimal, Option, Some, None}
use Rattle.tally_answers.specs.declared.question.ConnectRow.{ConnectRow}
use Rattle.tally_print.specs.Tables.{Row, asked}
use Rattle.tally_print.specs.Text.{shown, date}

-- the date of a day; empty where the row has none
abbrev pub day_field : Option ℤ → List ℕ
day_field None = []
day_field (Some day) = date day

-- the user, as printed; empty where the row has none
abbrev pub user_field : Option (List ℕ) → List ℕ
user_field None = []
user_field (Some user) = shown user

-- the names of the columns that a report by day, by user, by both or by none has
unfoldable pub connect_header : Bool → Bool → Row
connect_header by_day by_user =
    asked by_day (codes "day") ++ asked by_user (codes "user") ++ codes "seconds" ∷ []

-- the fields of a row under these names
unfoldable pub connect_fields : Bool → Bool → ConnectRow → Row
connect_fields by_day by_user row =
    asked by_day (day_field row.day) ++ asked by_user (user_field row.user) ++ decimal row.seconds ∷ []
