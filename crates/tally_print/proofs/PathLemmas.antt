-- Rows with the path of a file after the number of the file, and what stands after that number.
use Rattle.std.proofs.Common.{◌≡◌, ◌∙◌, ℕ, ℤ, ◌+◌, ◌++◌, ◌∷◌, List, [], None, Some, ap, map, refl, sym}
use Rattle.std.specs.Fmt.{signed_decimal}
use Rattle.std.specs.Prelude.{decimal, drop}
use Rattle.std.proofs.lemmas.List.{append_assoc, append_cancel_left, append-nil}
use Rattle.std.proofs.lemmas.Simd.{map-map}
use Rattle.csv.specs.Writing.{default_writer, field_text, row_text}
use Rattle.tally_attempts.specs.declared.attempt.Attempt.{Attempt}
use Rattle.tally_answers.specs.declared.question.Answer.{Answer}
use Rattle.tally_answers.specs.declared.question.Answer.TheVariants as answers
use Rattle.tally_records.specs.declared.period.Period.{Period}
use Rattle.tally_sessions.specs.Choice.{seconds_within}
use Rattle.tally_sessions.specs.declared.entry.Stay.{Stay}
use Rattle.tally_print.specs.AttemptTable.{attempt_fields}
use Rattle.tally_print.specs.PathTable.{path_rows, with_path}
use Rattle.tally_print.specs.StayTable.{end_word, iso_moment, line_field, part_fields, stay_fields, user_field}
use Rattle.tally_print.specs.Tables.{Row, csv_text}
use Rattle.tally_print.specs.Text.{shown}
use Rattle.tally_print.specs.declared.report_table.Table.TheVariants.{Stays}
use Rattle.tally_print.specs.inside.Paths.{BeginsWithFile, attempt_begins, part_begins, stay_begins, stays_in}
use Rattle.tally_print.specs.inside.Tables.{before_last}
use Rattle.tally_print.proofs.AttemptTableLemmas.{attempt_row_text}
use Rattle.tally_print.proofs.FileLemmas.{before_row, columns_before_row}
use Rattle.tally_print.proofs.PlainLemmas.{number_as_field}
use Rattle.tally_print.proofs.StayTableLemmas.{part_row_text, stay_row_text}

-- a number, a comma, a path as a field and a comma
begun_text : (n : ℕ) (path : List ℕ) → before_last (decimal n ∷ shown path ∷ []) ≡ (decimal n ++ 44 ∷ []) ++ (field_text default_writer (shown path) ++ 44 ∷ [])
begun_text n path = rw (number_as_field n) (simp (append_assoc, append-nil))

four_parts : (line n text rest : List ℕ) → (((line ++ n) ++ 44 ∷ []) ++ text) ++ rest ≡ line ++ (((n ++ 44 ∷ []) ++ text) ++ rest)
four_parts line n text rest = simp append_assoc

module _ (file : ℕ) (fields : Row) (begins : BeginsWithFile file fields) where
  -- the number, the path and what stands after the number, on a line
  pub path_on_line : (line path text : List ℕ) → text ≡ field_text default_writer (shown path) ++ 44 ∷ []
      → (((line ++ decimal (file + 1)) ++ 44 ∷ []) ++ text) ++ row_text default_writer (drop 1 fields) ≡ line ++ row_text default_writer (with_path path fields)
  path_on_line line path text is =
      let rest = row_text default_writer (drop 1 fields) in
      four_parts line (decimal (file + 1)) text rest
      ∙ ap (λ (t : List ℕ). line ++ (((decimal (file + 1) ++ 44 ∷ []) ++ t) ++ rest)) is
      ∙ ap (λ (t : List ℕ). line ++ (t ++ rest)) (sym (begun_text (file + 1) path))
      ∙ ap (λ (t : List ℕ). line ++ t) (columns_before_row (decimal (file + 1) ∷ shown path ∷ []) (drop 1 fields) begins.wide ∙ ap (λ (f : Row). row_text default_writer (with_path path f)) (sym begins.number))

  -- what stands after the number and its comma
  after_number : (text : List ℕ) → (decimal (file + 1) ++ 44 ∷ []) ++ text ≡ row_text default_writer fields → text ≡ row_text default_writer (drop 1 fields)
  after_number text is =
      append_cancel_left (decimal (file + 1) ++ 44 ∷ []) text (row_text default_writer (drop 1 fields))
      (is ∙ ap (row_text default_writer) begins.number ∙ before_row (decimal (file + 1)) (drop 1 fields) begins.wide ∙ ap (λ (t : List ℕ). (t ++ 44 ∷ []) ++ row_text default_writer (drop 1 fields)) (number_as_field (file + 1)))

-- the path in each row of a list
pub paths_of_rows : {X : Type 0} (path : List ℕ) (fields : X → Row) (rows : List X) → csv_text (map (λ row. with_path path (fields row)) rows) ≡ csv_text (map (with_path path) (map fields rows))
paths_of_rows path fields rows = ap csv_text (sym (map-map (with_path path) fields rows))

-- the stays of an answer, and the rows that it has in a table of stays with paths
pub stay_rows_with_path : (clock : ℤ → ℤ) (path : List ℕ) (answer : Answer) → csv_text (map (with_path path) (map (stay_fields clock) (stays_in answer))) ≡ csv_text (path_rows (Stays None) clock path answer)
stay_rows_with_path clock path (answers.Last rows first) = refl
stay_rows_with_path clock path (answers.Attempts rows first) = refl
stay_rows_with_path clock path (answers.AttemptSums rows) = refl
stay_rows_with_path clock path (answers.Connect rows total) = refl
stay_rows_with_path clock path (answers.Commands rows total) = refl
stay_rows_with_path clock path (answers.Users rows total) = refl

pub part_rows_with_path : (clock : ℤ → ℤ) (period : Period) (path : List ℕ) (answer : Answer) → csv_text (map (with_path path) (map (part_fields clock period) (stays_in answer))) ≡ csv_text (path_rows (Stays (Some period)) clock path answer)
part_rows_with_path clock period path (answers.Last rows first) = refl
part_rows_with_path clock period path (answers.Attempts rows first) = refl
part_rows_with_path clock period path (answers.AttemptSums rows) = refl
part_rows_with_path clock period path (answers.Connect rows total) = refl
part_rows_with_path clock period path (answers.Commands rows total) = refl
part_rows_with_path clock period path (answers.Users rows total) = refl

-- parts after a number, grouped as a row with the number has them
stay_parts : (n u p s e l : List ℕ) → n ++ ((((u ++ 44 ∷ [] ++ p) ++ s) ++ e) ++ l) ≡ (((n ++ u ++ 44 ∷ [] ++ p) ++ s) ++ e) ++ l
stay_parts n u p s e l = simp append_assoc

stay_on_line : (line a s e l : List ℕ) → (((line ++ a) ++ s) ++ e) ++ l ≡ line ++ (((a ++ s) ++ e) ++ l)
stay_on_line line a s e l = simp append_assoc

pub stay_after_file_text : (line : List ℕ) (clock : ℤ → ℤ) (stay : Stay)
    → (((line ++ (field_text default_writer (user_field stay) ++ 44 ∷ [] ++ (field_text default_writer (line_field stay) ++ 44 ∷ [] ++ (field_text default_writer (shown stay.remote) ++ 44 ∷ []))))
    ++ (signed_decimal stay.start ++ 44 ∷ [] ++ iso_moment stay.start clock ++ 44 ∷ [] ++ (signed_decimal stay.begin ++ 44 ∷ [])))
    ++ (field_text default_writer (end_word stay.end) ++ 44 ∷ [] ++ signed_decimal stay.end_time ++ 44 ∷ [] ++ iso_moment stay.end_time clock ++ 44 ∷ []))
    ++ (decimal stay.length ++ 10 ∷ []) ≡ line ++ row_text default_writer (drop 1 (stay_fields clock stay))
stay_after_file_text line clock stay =
    stay_on_line line _ _ _ _
    ∙ ap (λ (t : List ℕ). line ++ t) (after_number stay.host (stay_fields clock stay) (stay_begins clock stay) _ (stay_parts (decimal (stay.host + 1) ++ 44 ∷ []) _ _ _ _ _ ∙ stay_row_text [] clock stay))

part_parts : (n u p s e m l : List ℕ) → n ++ (((((u ++ 44 ∷ [] ++ p) ++ s) ++ e) ++ m) ++ l) ≡ ((((n ++ u ++ 44 ∷ [] ++ p) ++ s) ++ e) ++ m) ++ l
part_parts n u p s e m l = simp append_assoc

part_on_line : (line a s e m l : List ℕ) → ((((line ++ a) ++ s) ++ e) ++ m) ++ l ≡ line ++ ((((a ++ s) ++ e) ++ m) ++ l)
part_on_line line a s e m l = simp append_assoc

pub part_after_file_text : (line : List ℕ) (clock : ℤ → ℤ) (period : Period) (stay : Stay)
    → ((((line ++ (field_text default_writer (user_field stay) ++ 44 ∷ [] ++ (field_text default_writer (line_field stay) ++ 44 ∷ [] ++ (field_text default_writer (shown stay.remote) ++ 44 ∷ []))))
    ++ (signed_decimal stay.start ++ 44 ∷ [] ++ iso_moment stay.start clock ++ 44 ∷ [] ++ (signed_decimal stay.begin ++ 44 ∷ [])))
    ++ (field_text default_writer (end_word stay.end) ++ 44 ∷ [] ++ signed_decimal stay.end_time ++ 44 ∷ [] ++ iso_moment stay.end_time clock ++ 44 ∷ []))
    ++ (decimal stay.length ++ 44 ∷ [])) ++ (decimal (seconds_within period stay) ++ 10 ∷ []) ≡ line ++ row_text default_writer (drop 1 (part_fields clock period stay))
part_after_file_text line clock period stay =
    part_on_line line _ _ _ _ _
    ∙ ap (λ (t : List ℕ). line ++ t) (after_number stay.host (part_fields clock period stay) (part_begins clock period stay) _ (part_parts (decimal (stay.host + 1) ++ 44 ∷ []) _ _ _ _ _ _ ∙ part_row_text [] clock period stay))

attempt_parts : (n u p r t : List ℕ) → n ++ ((u ++ p ++ r) ++ t) ≡ (n ++ u ++ p ++ r) ++ t
attempt_parts n u p r t = simp append_assoc

pub attempt_after_file_text : (line : List ℕ) (clock : ℤ → ℤ) (attempt : Attempt)
    → (line ++ ((field_text default_writer (shown attempt.user) ++ 44 ∷ []) ++ (field_text default_writer (shown attempt.line) ++ 44 ∷ []) ++ (field_text default_writer (shown attempt.remote) ++ 44 ∷ [])))
    ++ (signed_decimal attempt.time ++ 44 ∷ [] ++ iso_moment attempt.time clock ++ 10 ∷ []) ≡ line ++ row_text default_writer (drop 1 (attempt_fields clock attempt))
attempt_after_file_text line clock attempt =
    append_assoc line _ _
    ∙ ap (λ (t : List ℕ). line ++ t) (after_number attempt.host (attempt_fields clock attempt) (attempt_begins clock attempt) _ (attempt_parts (decimal (attempt.host + 1) ++ 44 ∷ []) _ _ _ _ ∙ attempt_row_text [] clock attempt))
