-- The text of a row, group by group.
use Rattle.std.proofs.Common.{◌≡◌, ℕ, ◌∷◌, ◌++◌, List, [], ◌∙◌, ap}
use Rattle.std.specs.Prelude.{decimal}
use Rattle.std.proofs.lemmas.List.{append_assoc}
use Rattle.std.proofs.lemmas.Grind.{flat_map-append}
use Rattle.csv.specs.Writing.{default_writer, row_text}
use Rattle.tally_check_text.specs.inside.Rows.{before, before_last}
use Rattle.tally_print.proofs.PlainLemmas.{number_as_field, number_shows}
use Rattle.tally_print.proofs.RowLemmas.{row_text_last}
use Rattle.tally_print.specs.Tables.{Row}

-- two groups, one after the other
pub two_joined : (text : List ℕ) (a b : Row) → (text ++ before_last a) ++ before_last b ≡ text ++ before_last (a ++ b)
two_joined text a b = rw (flat_map-append before a b) (append_assoc text (before_last a) (before_last b))

pub three_joined : (text : List ℕ) (a b d : Row) → ((text ++ before_last a) ++ before_last b) ++ before_last d ≡ text ++ before_last ((a ++ b) ++ d)
three_joined text a b d = rw (two_joined text a b) (two_joined text (a ++ b) d)

pub four_joined : (text : List ℕ) (a b d e : Row) → (((text ++ before_last a) ++ before_last b) ++ before_last d) ++ before_last e ≡ text ++ before_last (((a ++ b) ++ d) ++ e)
four_joined text a b d e = rw (three_joined text a b d) (two_joined text ((a ++ b) ++ d) e)

-- three groups, and a number that ends the row
pub row_joined : (text : List ℕ) (a b d : Row) (n : ℕ) → (((text ++ before_last a) ++ before_last b) ++ before_last d) ++ (decimal n ++ 10 ∷ []) ≡ text ++ row_text default_writer (((a ++ b) ++ d) ++ decimal n ∷ [])
row_joined text a b d n =
    let last = row_text_last ((a ++ b) ++ d) (decimal n) (number_shows n) ∙ ap (λ (t : List ℕ). before_last ((a ++ b) ++ d) ++ (t ++ 10 ∷ [])) (number_as_field n) in
    rw (three_joined text a b d, last) (append_assoc text (before_last ((a ++ b) ++ d)) (decimal n ++ 10 ∷ []))
