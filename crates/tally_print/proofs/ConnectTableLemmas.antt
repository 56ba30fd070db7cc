-- The text of a row of connect times.
use Rattle.std.proofs.Common.{◌≡◌, ℕ, ◌∷◌, ◌++◌, List, [], refl, ◌∙◌, Bool, ap}
use Rattle.std.specs.Prelude.{decimal}
use Rattle.std.proofs.lemmas.List.{append_assoc}
use Rattle.std.proofs.lemmas.Grind.{flat_map-append}
use Rattle.csv.specs.Writing.{default_writer, field_text, row_text}
use Rattle.tally_answers.specs.declared.question.ConnectRow.{ConnectRow}
use Rattle.tally_print.specs.ConnectTable.{connect_fields, day_field, user_field}
use Rattle.tally_print.specs.Tables.{Row, asked}
use Rattle.tally_print.specs.inside.Tables.{before_last}
use Rattle.tally_print.proofs.PlainLemmas.{number_as_field, number_shows}
use Rattle.tally_print.proofs.RowLemmas.{row_text_last}

pub two_and_last : (a b : Row) (n : ℕ) → row_text default_writer ((a ++ b) ++ decimal n ∷ []) ≡ before_last a ++ (before_last b ++ (decimal n ++ 10 ∷ []))
two_and_last a b n =
    row_text_last (a ++ b) (decimal n) (number_shows n)
    ∙ ap (λ (t : List ℕ). before_last (a ++ b) ++ (t ++ 10 ∷ [])) (number_as_field n)
    ∙ rw (flat_map-append (λ field. field_text default_writer field ++ 44 ∷ []) a b) (append_assoc (before_last a) (before_last b) _)

opened : (by_day by_user : Bool) (row : ConnectRow) → connect_fields by_day by_user row ≡ asked by_day (day_field row.day) ++ asked by_user (user_field row.user) ++ decimal row.seconds ∷ []
unfolding connect_fields
opened by_day by_user row = refl

pub connect_row_text : (by_day by_user : Bool) (row : ConnectRow) → row_text default_writer (connect_fields by_day by_user row) ≡ before_last (asked by_day (day_field row.day)) ++ (before_last (asked by_user (user_field row.user)) ++ (decimal row.seconds ++ 10 ∷ []))
connect_row_text by_day by_user row =
    ap (row_text default_writer) (opened by_day by_user row) ∙ two_and_last (asked by_day (day_field row.day)) (asked by_user (user_field row.user)) row.seconds
