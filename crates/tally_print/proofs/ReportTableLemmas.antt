-- The rows of a report's answers, one answer after the other.
use Rattle.std.proofs.Common.{◌≡◌, ℕ, ℤ, ◌++◌, ◌∙◌, List, flat_map, map, ap}
use Rattle.std.proofs.lemmas.List.Folds.{flat_map-map}
use Rattle.csv.specs.Writing.{default_writer, row_text}
use Rattle.tally_answers.specs.declared.question.Answer.{Answer}
use Rattle.tally_print.specs.ReportTable.{answer_rows, header, table_text}
use Rattle.tally_print.specs.Tables.{csv_text}
use Rattle.tally_print.specs.declared.report_table.Table.{Table}
use Rattle.tally_print.proofs.TableLemmas.{rows_of_all}

-- the header and then the rows of the answers
pub header_and_rows : (table : Table) (clock : ℤ → ℤ) (answers : List Answer)
    → table_text table clock answers ≡ row_text default_writer (header table) ++ flat_map (λ answer. csv_text (answer_rows table clock answer)) answers
header_and_rows table clock answers = ap (λ (t : List ℕ). row_text default_writer (header table) ++ t) (rows_of_all (answer_rows table clock) answers)

-- and the rows of answers that others stand for
pub header_and_rows_by : {X : Type 0} (table : Table) (clock : ℤ → ℤ) (v : X → Answer) (xs : List X)
    → table_text table clock (map v xs) ≡ row_text default_writer (header table) ++ flat_map (λ x. csv_text (answer_rows table clock (v x))) xs
header_and_rows_by table clock v xs =
    header_and_rows table clock (map v xs) ∙ ap (λ (t : List ℕ). row_text default_writer (header table) ++ t) (flat_map-map (λ answer. csv_text (answer_rows table clock answer)) v xs)
