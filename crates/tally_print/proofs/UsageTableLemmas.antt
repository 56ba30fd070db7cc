-- The text of a row of usage.
use Rattle.std.proofs.Common.{List, ℕ, ◌≡◌, ◌∷◌, ◌++◌, [], refl, ◌∙◌, Bool, true, false, ap}
use Rattle.std.specs.Prelude.{decimal}
use Rattle.std.proofs.lemmas.List.{append_assoc, append-nil}
use Rattle.csv.specs.Writing.{default_writer, field_text, row_text}
use Rattle.tally_usage.specs.declared.command.CommandRow.{CommandRow}
use Rattle.tally_usage.specs.declared.usage.Usage.{Usage}
use Rattle.tally_usage.specs.declared.user.UidRow.{UidRow}
use Rattle.tally_print.specs.UsageTable.{command_fields, mark_field, name_fields, sum_fields, uid_fields, user_fields}
use Rattle.tally_print.specs.inside.Tables.{before_last}
use Rattle.tally_print.specs.Text.{shown}
use Rattle.tally_print.proofs.ConnectTableLemmas.{two_and_last}
use Rattle.tally_print.proofs.PlainLemmas.{number_as_field}

mark_as_field : (mark : Bool) → field_text default_writer (mark_field mark) ≡ mark_field mark
mark_as_field true = refl
mark_as_field false = refl

name_text : (row : CommandRow) → before_last (name_fields row) ≡ (field_text default_writer (shown row.name) ++ 44 ∷ [] ++ mark_field row.forked ++ 44 ∷ [] ++ mark_field row.other ++ 44 ∷ [])
unfolding name_fields
name_text row = rw (mark_as_field row.forked, mark_as_field row.other) (simp (append_assoc, append-nil))

pub sums_text : (u : Usage) → before_last (sum_fields u) ++ (decimal u.mem_cpu ++ 10 ∷ []) ≡ (decimal u.count ++ 44 ∷ [] ++ decimal u.real ++ 44 ∷ [] ++ decimal u.cpu ++ 44 ∷ [] ++ decimal u.io ++ 44 ∷ [] ++ decimal u.mem_cpu ++ 10 ∷ [])
unfolding sum_fields
sums_text u = rw (number_as_field u.count, number_as_field u.real, number_as_field u.cpu, number_as_field u.io) (simp (append_assoc, append-nil))

uid_text : (row : UidRow) → before_last (uid_fields row) ≡ decimal row.uid ++ 44 ∷ []
uid_text row = rw (number_as_field row.uid) (simp (append_assoc, append-nil))

opened_command : (row : CommandRow) → command_fields row ≡ name_fields row ++ sum_fields row.usage ++ decimal row.usage.mem_cpu ∷ []
unfolding command_fields
opened_command row = refl

-- the parts of a row, one after the other, on a line
pub command_row_text : (line : List ℕ) (row : CommandRow)
    → (line ++ (field_text default_writer (shown row.name) ++ 44 ∷ [] ++ mark_field row.forked ++ 44 ∷ [] ++ mark_field row.other ++ 44 ∷ []))
    ++ (decimal row.usage.count ++ 44 ∷ [] ++ decimal row.usage.real ++ 44 ∷ [] ++ decimal row.usage.cpu ++ 44 ∷ [] ++ decimal row.usage.io ++ 44 ∷ [] ++ decimal row.usage.mem_cpu ++ 10 ∷ []) ≡ line ++ row_text default_writer (command_fields row)
command_row_text line row =
    append_assoc line _ _
    ∙ ap (λ (t : List ℕ). line ++ t)
    (rw (opened_command row, two_and_last (name_fields row) (sum_fields row.usage) row.usage.mem_cpu, name_text row, sums_text row.usage) refl)

opened_user : (row : UidRow) → user_fields row ≡ uid_fields row ++ sum_fields row.usage ++ decimal row.usage.mem_cpu ∷ []
unfolding user_fields
opened_user row = refl

pub user_row_text : (line : List ℕ) (row : UidRow)
    → (line ++ (decimal row.uid ++ 44 ∷ []))
    ++ (decimal row.usage.count ++ 44 ∷ [] ++ decimal row.usage.real ++ 44 ∷ [] ++ decimal row.usage.cpu ++ 44 ∷ [] ++ decimal row.usage.io ++ 44 ∷ [] ++ decimal row.usage.mem_cpu ++ 10 ∷ []) ≡ line ++ row_text default_writer (user_fields row)
user_row_text line row =
    append_assoc line _ _
    ∙ ap (λ (t : List ℕ). line ++ t)
    (rw (opened_user row, two_and_last (uid_fields row) (sum_fields row.usage) row.usage.mem_cpu, uid_text row, sums_text row.usage) refl)
