-- The columns of a file before a row, and a text that is printed byte by byte.
use Rattle.std.proofs.Common.{◌≡◌, ℕ, ◌∷◌, ◌++◌, ◌∙◌, List, [], Bool, Option, refl, sym, ap, false, true, map, flat_map}
use Rattle.std.specs.Prelude.{decimal}
use Rattle.std.proofs.lemmas.Bool.{true≢false}
use Rattle.std.proofs.lemmas.List.{append_assoc, append-nil}
use Rattle.std.proofs.lemmas.List.Concat.{flat_map_single}
use Rattle.csv.specs.Writing.{default_writer, field_text, fields_text, is_blank, row_text}
use Rattle.tally_answers.specs.declared.question.ConnectRow.{ConnectRow}
use Rattle.tally_usage.specs.declared.command.CommandRow.{CommandRow}
use Rattle.tally_usage.specs.declared.user.UidRow.{UidRow}
use Rattle.tally_print.specs.ConnectTable.{connect_fields, connect_header}
use Rattle.tally_print.specs.FileColumns.{file_columns, file_names, path_column, rows_after}
use Rattle.tally_print.specs.FileUsage.{file_header, header_of}
use Rattle.tally_print.specs.NamedUsers.{named_user_fields, named_user_header}
use Rattle.tally_print.specs.Tables.{Row, csv_text}
use Rattle.tally_print.specs.Text.{shown_byte}
use Rattle.tally_print.specs.UsageTable.{command_fields, command_header, name_fields, sum_fields, user_fields, user_header}
use Rattle.tally_print.specs.declared.file_usage.FileTable.{FileTable}
use Rattle.tally_print.specs.declared.file_usage.FileTable.TheVariants.{Commands, Users, NamedUsers, Connect}
use Rattle.tally_print.specs.inside.Tables.{IsWide, before_last}
use Rattle.tally_print.proofs.PlainLemmas.{number_as_field, number_shows}

nothing_is_blank : is_blank default_writer [] ≡ true
unfolding is_blank
nothing_is_blank = refl

two_are_wide : (x y : List ℕ) (rest : Row) → IsWide (x ∷ y ∷ rest)
unfolding is_blank
two_are_wide x y rest = refl

-- other fields before such a row
wide_after : (xs rest : Row) → IsWide rest → IsWide (xs ++ rest)
wide_after [] rest wide = wide
wide_after (x ∷ xs) [] wide = absurd (true≢false (sym nothing_is_blank ∙ wide))
wide_after (x ∷ []) (y ∷ rest) wide = two_are_wide x y rest
wide_after (x ∷ z ∷ xs) (y ∷ rest) wide = two_are_wide x z (xs ++ (y ∷ rest))

-- a field, a comma, and a row that is not blank
pub before_row : (x : List ℕ) (rest : Row) → IsWide rest → row_text default_writer (x ∷ rest) ≡ (field_text default_writer x ++ 44 ∷ []) ++ row_text default_writer rest
unfolding fields_text
before_row x [] wide = absurd (true≢false (sym nothing_is_blank ∙ wide))
before_row x (y ∷ rest) wide = rw (two_are_wide x y rest, wide) (simp append_assoc)

-- fields, each with a comma after it, and such a row
pub columns_before_row : (columns rest : Row) → IsWide rest → before_last columns ++ row_text default_writer rest ≡ row_text default_writer (columns ++ rest)
columns_before_row [] rest wide = refl
columns_before_row (x ∷ xs) rest wide =
    append_assoc (field_text default_writer x ++ 44 ∷ []) (before_last xs) (row_text default_writer rest)
    ∙ ap (λ (t : List ℕ). (field_text default_writer x ++ 44 ∷ []) ++ t) (columns_before_row xs rest wide)
    ∙ sym (before_row x (xs ++ rest) (wide_after xs rest wide))

-- the text of the columns of a file
pub head_text : (number : ℕ) (path : Option (List ℕ)) → (decimal number ++ 44 ∷ []) ++ before_last (path_column path) ≡ before_last (file_columns number path)
head_text number path = ap (λ (t : List ℕ). (t ++ 44 ∷ []) ++ before_last (path_column path)) (sym (number_as_field number))

-- the columns of a file before each of its rows
pub rows_after_text : {X : Type 0} (columns : Row) (fields : X → Row) → ((x : X) → IsWide (fields x)) → (rows : List X)
    → flat_map (λ x. before_last columns ++ row_text default_writer (fields x)) rows ≡ csv_text (rows_after columns fields rows)
rows_after_text columns fields wide [] = refl
rows_after_text columns fields wide (x ∷ xs) =
    ap (λ (t : List ℕ). t ++ flat_map (λ y. before_last columns ++ row_text default_writer (fields y)) xs) (columns_before_row columns (fields x) (wide x))
    ∙ ap (λ (t : List ℕ). row_text default_writer (columns ++ fields x) ++ t) (rows_after_text columns fields wide xs)

wide_header : (table : FileTable) → IsWide (header_of table)
unfolding command_header user_header named_user_header connect_header is_blank
wide_header Commands = refl
wide_header Users = refl
wide_header NamedUsers = refl
wide_header (Connect true true) = refl
wide_header (Connect true false) = refl
wide_header (Connect false true) = refl
wide_header (Connect false false) = refl

-- the names of a table's columns after those of the file
pub file_header_text : (paths : Bool) (table : FileTable) → before_last (file_names paths) ++ row_text default_writer (header_of table) ≡ csv_text (file_header paths table ∷ [])
file_header_text paths table =
    columns_before_row (file_names paths) (header_of table) (wide_header table) ∙ sym (append-nil (row_text default_writer (file_header paths table)))

pub wide_command : (row : CommandRow) → IsWide (command_fields row)
unfolding command_fields name_fields is_blank
wide_command row = refl

pub wide_user : (row : UidRow) → IsWide (user_fields row)
unfolding user_fields sum_fields is_blank
wide_user row = refl

pub wide_named_user : (names : ℕ → Option (List ℕ)) (row : UidRow) → IsWide (named_user_fields names row)
unfolding named_user_fields is_blank
wide_named_user names row = refl

pub wide_connect : (by_day by_user : Bool) (row : ConnectRow) → IsWide (connect_fields by_day by_user row)
unfolding connect_fields is_blank
wide_connect true true row = refl
wide_connect true false row = refl
wide_connect false true row = refl
wide_connect false false row = number_shows row.seconds

-- bytes as printed, one by one, and what ends their line
pub shown_by_bytes : (text end : List ℕ) → flat_map (λ byte. shown_byte byte ∷ []) text ++ end ≡ map shown_byte text ++ end
shown_by_bytes text end = ap (λ (t : List ℕ). t ++ end) (flat_map_single shown_byte text)
