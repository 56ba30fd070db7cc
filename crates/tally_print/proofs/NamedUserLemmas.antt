-- The text of a row of usage by user with the user's name.
use Rattle.std.proofs.Common.{List, ℕ, ◌≡◌, ◌∷◌, ◌++◌, [], Option, refl, ◌∙◌, ap}
use Rattle.std.specs.Prelude.{decimal}
use Rattle.std.proofs.lemmas.List.{append_assoc, append-nil}
use Rattle.csv.specs.Writing.{default_writer, field_text, row_text}
use Rattle.tally_usage.specs.declared.user.UidRow.{UidRow}
use Rattle.tally_print.specs.ConnectTable.{user_field}
use Rattle.tally_print.specs.NamedUsers.{named_uid_fields, named_user_fields}
use Rattle.tally_print.specs.UsageTable.{sum_fields}
use Rattle.tally_print.specs.inside.Tables.{before_last}
use Rattle.tally_print.proofs.ConnectTableLemmas.{two_and_last}
use Rattle.tally_print.proofs.PlainLemmas.{number_as_field}
use Rattle.tally_print.proofs.UsageTableLemmas.{sums_text}

-- the text of a name, and the mark after it
abbrev pub name_and_mark : Option (List ℕ) → List ℕ
name_and_mark name = field_text default_writer (user_field name) ++ 44 ∷ []

uid_and_name_text : (names : ℕ → Option (List ℕ)) (row : UidRow) → before_last (named_uid_fields names row) ≡ (decimal row.uid ++ 44 ∷ []) ++ name_and_mark (names row.uid)
uid_and_name_text names row =
    rw (number_as_field row.uid) (ap (λ (t : List ℕ). (decimal row.uid ++ 44 ∷ []) ++ t) (append-nil (name_and_mark (names row.uid))))

opened : (names : ℕ → Option (List ℕ)) (row : UidRow) → named_user_fields names row ≡ named_uid_fields names row ++ sum_fields row.usage ++ decimal row.usage.mem_cpu ∷ []
unfolding named_user_fields
opened names row = refl

regrouped : (a b c d : List ℕ) → ((a ++ b) ++ c) ++ d ≡ a ++ ((b ++ c) ++ d)
regrouped a b c d = simp append_assoc

-- the parts of a row, one after the other, on a line
pub named_user_row_text : (line : List ℕ) (names : ℕ → Option (List ℕ)) (row : UidRow)
    → ((line ++ (decimal row.uid ++ 44 ∷ [])) ++ name_and_mark (names row.uid))
    ++ (decimal row.usage.count ++ 44 ∷ [] ++ decimal row.usage.real ++ 44 ∷ [] ++ decimal row.usage.cpu ++ 44 ∷ [] ++ decimal row.usage.io ++ 44 ∷ [] ++ decimal row.usage.mem_cpu ++ 10 ∷ []) ≡ line ++ row_text default_writer (named_user_fields names row)
named_user_row_text line names row =
    regrouped line (decimal row.uid ++ 44 ∷ []) (name_and_mark (names row.uid)) _
    ∙ ap (λ (t : List ℕ). line ++ t)
    (rw (opened names row, two_and_last (named_uid_fields names row) (sum_fields row.usage) row.usage.mem_cpu, uid_and_name_text names row, sums_text row.usage) refl)
