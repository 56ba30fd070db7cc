-- The text of a row, field by field.
use Rattle.std.proofs.Common.{◌≡◌, ℕ, ◌∷◌, ◌++◌, List, [], false, refl, ap}
use Rattle.std.proofs.lemmas.List.{append_assoc, append-nil}
use Rattle.csv.specs.Writing.{default_writer, field_text, fields_text, is_blank, row_text}
use Rattle.tally_print.specs.Tables.{Row}
use Rattle.tally_print.specs.inside.Tables.{before_last}

fields_text_last : (xs : Row) (y : List ℕ) → fields_text default_writer (xs ++ y ∷ []) ≡ 44 ∷ (before_last xs ++ field_text default_writer y)
unfolding fields_text
fields_text_last [] y = ap (λ (t : List ℕ). 44 ∷ t) (append-nil (field_text default_writer y))
fields_text_last (x ∷ xs) y = ap (λ (t : List ℕ). 44 ∷ t) (rw (fields_text_last xs y, append_assoc, append_assoc) refl)

shows_two : (x : List ℕ) (xs : Row) (y : List ℕ) → is_blank default_writer (x ∷ (xs ++ y ∷ [])) ≡ false
unfolding is_blank
shows_two x [] y = refl
shows_two x (z ∷ zs) y = refl

-- fields with a comma after each, and the last field with the line's end
pub row_text_last : (xs : Row) (y : List ℕ) → is_blank default_writer (y ∷ []) ≡ false → row_text default_writer (xs ++ y ∷ []) ≡ before_last xs ++ (field_text default_writer y ++ 10 ∷ [])
unfolding fields_text
row_text_last [] y shows = rw (shows, append-nil) refl
row_text_last (x ∷ xs) y shows = rw (shows_two x xs y, fields_text_last xs y) (simp append_assoc)
