-- A report as one table: the names of its columns, and the rows of its answers.
use Rattle.std.specs.Prelude.{ℕ, ℤ, Bool, false, List, [], ◌∷◌, flat_map, map, None, Some}
use Rattle.tally_answers.specs.declared.question.Answer.{Answer}
use Rattle.tally_answers.specs.declared.question.Answer.TheVariants as answers
use Rattle.tally_answers.specs.declared.question.ConnectRow.{ConnectRow}
use Rattle.tally_print.specs.AttemptTable.{attempt_fields, attempt_header, attempt_sum_fields, attempt_sum_header}
use Rattle.tally_print.specs.ConnectTable.{connect_fields, connect_header}
use Rattle.tally_print.specs.StayTable.{part_fields, part_header, stay_fields, stay_header}
use Rattle.tally_print.specs.Tables.{Row, csv_text}
use Rattle.tally_print.specs.UsageTable.{command_fields, command_header, user_fields, user_header}
use Rattle.tally_print.specs.declared.report_table.Table.{Table}
use Rattle.tally_print.specs.declared.report_table.Table.TheVariants.{Stays, Attempts, AttemptSums, Connect, Commands, Users}

-- the names of a table's columns
abbrev pub header : Table → Row
header (Stays None) = stay_header
header (Stays (Some period)) = part_header
header Attempts = attempt_header
header AttemptSums = attempt_sum_header
header (Connect by_day by_user) = connect_header by_day by_user
header Commands = command_header
header Users = user_header

-- the connect times that are rows: the total, where they are neither by day nor by user
abbrev pub connect_rows : Bool → Bool → List ConnectRow → ℕ → List ConnectRow
connect_rows false false rows total = record { day = None; user = None; seconds = total } ∷ []
connect_rows by_day by_user rows total = rows

-- the rows of an answer, with moments by a clock; an answer to another kind of question has none
abbrev pub answer_rows : Table → (ℤ → ℤ) → Answer → List Row
answer_rows (Stays None) clock (answers.Last rows first) = map (stay_fields clock) rows
answer_rows (Stays (Some period)) clock (answers.Last rows first) = map (part_fields clock period) rows
answer_rows Attempts clock (answers.Attempts rows first) = map (attempt_fields clock) rows
answer_rows AttemptSums clock (answers.AttemptSums rows) = map attempt_sum_fields rows
answer_rows (Connect by_day by_user) clock (answers.Connect rows total) =
    map (connect_fields by_day by_user) (connect_rows by_day by_user rows total)
answer_rows Commands clock (answers.Commands rows total) = map command_fields rows
answer_rows Users clock (answers.Users rows total) = map user_fields rows
answer_rows table clock answer = []

-- the header once, and then the rows of all answers, with moments by a clock
abbrev pub report_rows : Table → (ℤ → ℤ) → List Answer → List Row
report_rows table clock all = header table ∷ flat_map (answer_rows table clock) all

-- the text of that table
abbrev pub table_text : Table → (ℤ → ℤ) → List Answer → List ℕ
table_text table clock all = csv_text (report_rows table clock all)
