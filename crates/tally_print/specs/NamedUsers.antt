-- Usage by user where users have names, as text and as a table. A name is found by the user's number.
use Rattle.std.specs.Prelude.{ℕ, List, [], ◌∷◌, ◌++◌, flat_map, map, codes, decimal, Option, Some, None}
use Rattle.tally_usage.specs.declared.usage.Usage.{Usage}
use Rattle.tally_usage.specs.declared.user.UidRow.{UidRow}
use Rattle.tally_print.specs.ConnectTable.{user_field}
use Rattle.tally_print.specs.Tables.{Row, csv_text}
use Rattle.tally_print.specs.Text.{shown, left}
use Rattle.tally_print.specs.UsageTable.{sum_fields, usage_header}
use Rattle.tally_print.specs.UsageText.{columns, named_total_line}

-- a user as printed: the name, or the number where it has none
abbrev pub user_word : Option (List ℕ) → ℕ → List ℕ
user_word None uid = decimal uid
user_word (Some name) uid = shown name

-- the line of a user: its name or its number, and its columns
unfoldable pub named_user_line : (ℕ → Option (List ℕ)) → UidRow → List ℕ
named_user_line names row =
    left (user_word (names row.uid) row.uid) 10 ++ codes " " ++ columns row.usage ++ codes "\n"

-- the line of the total, and a line for each user
abbrev pub named_users_text : (ℕ → Option (List ℕ)) → List UidRow → Usage → List ℕ
named_users_text names rows total =
    named_total_line total ++ flat_map (named_user_line names) rows

-- the names of the columns of a table
unfoldable pub named_user_header : Row
named_user_header = codes "uid" ∷ codes "name" ∷ usage_header

-- the user's number and its name, which is empty where the number has none
abbrev pub named_uid_fields : (ℕ → Option (List ℕ)) → UidRow → Row
named_uid_fields names row = decimal row.uid ∷ user_field (names row.uid) ∷ []

-- the fields of a user under these names
unfoldable pub named_user_fields : (ℕ → Option (List ℕ)) → UidRow → Row
named_user_fields names row =
    named_uid_fields names row ++ sum_fields row.usage ++ decimal row.usage.mem_cpu ∷ []

-- the header, and then a row for each user
abbrev pub named_user_rows : (ℕ → Option (List ℕ)) → List UidRow → List Row
named_user_rows names rows = named_user_header ∷ map (named_user_fields names) rows

-- the text of that table
abbrev pub named_user_table_text : (ℕ → Option (List ℕ)) → List UidRow → List ℕ
named_user_table_text names rows = csv_text (named_user_rows names rows)
