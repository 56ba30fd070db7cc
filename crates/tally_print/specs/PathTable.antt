-- Stays and failed logins as tables with the path of each file, as it was given.
use Rattle.std.specs.Prelude.{ℕ, ℤ, List, [], ◌∷◌, codes, flat_map, get_or, map}
use Rattle.std.specs.List.{enumerate_from}
use Rattle.tally_answers.specs.declared.question.Answer.{Answer}
use Rattle.tally_print.specs.ReportTable.{answer_rows, header}
use Rattle.tally_print.specs.Tables.{Row, csv_text}
use Rattle.tally_print.specs.Text.{shown}
use Rattle.tally_print.specs.declared.report_table.Table.{Table}
use Rattle.tally_print.specs.declared.report_table.Table.TheVariants.{Stays, Attempts}

-- a row with one more field, after its first
abbrev pub with_second : List ℕ → Row → Row
with_second field [] = []
with_second field (first ∷ others) = first ∷ field ∷ others

-- a row whose first field is its file, with the path of the file
abbrev pub with_path : List ℕ → Row → Row
with_path path row = with_second (shown path) row

-- the names of a table's columns, with that of the path where rows have a file
abbrev pub path_header : Table → Row
path_header (Stays within) = with_second (codes "path") (header (Stays within))
path_header Attempts = with_second (codes "path") (header Attempts)
path_header table = header table

-- the rows of an answer on a file, with moments by a clock, and with the path where rows have a file
abbrev pub path_rows : Table → (ℤ → ℤ) → List ℕ → Answer → List Row
path_rows (Stays within) clock path answer = map (with_path path) (answer_rows (Stays within) clock answer)
path_rows Attempts clock path answer = map (with_path path) (answer_rows Attempts clock answer)
path_rows table clock path answer = answer_rows table clock answer

-- the header once, and then the rows of all answers, of which each is on the file with its number; a file that has no path has an empty one
abbrev pub path_report_rows : Table → (ℤ → ℤ) → List (List ℕ) → List Answer → List Row
path_report_rows table clock paths answers =
    path_header table ∷ flat_map (λ numbered. path_rows table clock (get_or paths numbered.0 []) numbered.1) (enumerate_from 0 answers)

-- the text of that table
abbrev pub path_table_text : Table → (ℤ → ℤ) → List (List ℕ) → List Answer → List ℕ
path_table_text table clock paths answers = csv_text (path_report_rows table clock paths answers)
