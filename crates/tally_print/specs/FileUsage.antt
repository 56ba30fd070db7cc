-- Usage of each file by itself: the line above what a file has as text, and a table with the columns of the file.
use Rattle.std.specs.Prelude.{ℕ, Bool, List, ◌++◌, codes, Option}
use Rattle.tally_answers.specs.declared.question.ConnectRow.{ConnectRow}
use Rattle.tally_usage.specs.declared.command.CommandRow.{CommandRow}
use Rattle.tally_usage.specs.declared.user.UidRow.{UidRow}
use Rattle.tally_print.specs.ConnectTable.{connect_fields, connect_header}
use Rattle.tally_print.specs.FileColumns.{file_names, rows_after}
use Rattle.tally_print.specs.NamedUsers.{named_user_fields, named_user_header}
use Rattle.tally_print.specs.ReportTable.{connect_rows}
use Rattle.tally_print.specs.Tables.{Row}
use Rattle.tally_print.specs.Text.{shown}
use Rattle.tally_print.specs.UsageTable.{command_fields, command_header, user_fields, user_header}
use Rattle.tally_print.specs.declared.file_usage.FileTable.{FileTable}
use Rattle.tally_print.specs.declared.file_usage.FileTable.TheVariants.{Commands, Users, NamedUsers, Connect}

-- the line of a file: its path as printed, and a colon
abbrev pub path_line : List ℕ → List ℕ
path_line path = shown path ++ codes ":\n"

-- the names of a table's columns but those of the file
abbrev pub header_of : FileTable → Row
header_of Commands = command_header
header_of Users = user_header
header_of NamedUsers = named_user_header
header_of (Connect by_day by_user) = connect_header by_day by_user

-- the names of a table's columns: those of the file, and then what its rows have
abbrev pub file_header : Bool → FileTable → Row
file_header paths table = file_names paths ++ header_of table

-- a row for each command of a file: the columns of the file, and the fields of the command
abbrev pub file_command_rows : Row → List CommandRow → List Row
file_command_rows columns rows = rows_after columns command_fields rows

-- a row for each user of a file
abbrev pub file_user_rows : Row → List UidRow → List Row
file_user_rows columns rows = rows_after columns user_fields rows

-- a row for each user of a file, where users have names
abbrev pub file_named_user_rows : Row → (ℕ → Option (List ℕ)) → List UidRow → List Row
file_named_user_rows columns names rows = rows_after columns (named_user_fields names) rows

-- a row for each connect time of a file; the total alone, where they are neither by day nor by user
abbrev pub file_connect_rows : Row → Bool → Bool → List ConnectRow → ℕ → List Row
file_connect_rows columns by_day by_user rows total =
    rows_after columns (connect_fields by_day by_user) (connect_rows by_day by_user rows total)
