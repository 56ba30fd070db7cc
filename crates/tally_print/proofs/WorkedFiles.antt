-- Worked lines, headers and rows of files, computed by the definitions.
use Rattle.std.proofs.Common.{◌≡◌, [], ◌∷◌, ◌++◌, List, ℕ, Option, None, Some, false, true, map, refl}
use Rattle.std.specs.Fmt.{digits}
use Rattle.std.specs.Prelude.{codes}
use Rattle.csv.specs.Writing.{escaped, fields_text, is_blank}
use Rattle.tally_answers.specs.declared.question.ConnectRow.{ConnectRow}
use Rattle.tally_records.specs.Text.{padded}
use Rattle.tally_usage.specs.Names.{names_of}
use Rattle.tally_usage.specs.declared.command.CommandRow.{CommandRow}
use Rattle.tally_usage.specs.declared.usage.Usage.{Usage}
use Rattle.tally_usage.specs.declared.user.UidRow.{UidRow}
use Rattle.tally_print.specs.ConnectTable.{connect_fields, connect_header}
use Rattle.tally_print.specs.FileColumns.{file_columns}
use Rattle.tally_print.specs.FileUsage.{file_command_rows, file_connect_rows, file_header, file_named_user_rows, file_user_rows, path_line}
use Rattle.tally_print.specs.NamedUsers.{named_user_fields, named_user_header}
use Rattle.tally_print.specs.Tables.{Row, csv_text}
use Rattle.tally_print.specs.UsageTable.{command_fields, command_header, name_fields, sum_fields, user_fields, user_header}
use Rattle.tally_print.specs.declared.file_usage.FileTable.TheVariants.{Commands, Users, NamedUsers, Connect}

-- four calls: a minute elapsed, 90 ticks of cpu
abbrev four : Usage
four = record { count = 4; real = 6000; cpu = 90; io = 10; mem_cpu = 4500 }

abbrev make : CommandRow
make = record { name = padded 17 (codes "make"); forked = true; other = false; usage = four }

abbrev of_user : ℕ → UidRow
of_user uid = record { uid = uid; usage = four }

abbrev names : ℕ → Option (List ℕ)
names uid = names_of ((1000, codes "ann") ∷ (0, codes "a,b") ∷ []) uid

-- a byte that does not print is a question mark; a path may be empty, and a colon or a comma in it stands as it is
path_lines : map path_line (codes "build.acct" ∷ (27 ∷ codes "/old" ++ 195 ∷ 169 ∷ []) ∷ codes "a:,\"b" ∷ [] ∷ []) ≡ codes "build.acct:\n" ∷ codes "?/old??:\n" ∷ codes "a:,\"b:\n" ∷ codes ":\n" ∷ []
path_lines = refl

-- the columns of file 2: without a path, with one that has a comma, a quote and a byte that does not print, and with an empty one
abbrev numbered : Row
numbered = file_columns 2 None

abbrev odd : List ℕ
odd = codes "a,\"b" ++ 27 ∷ []

columns : numbered ∷ file_columns 2 (Some odd) ∷ file_columns 128 (Some []) ∷ [] ≡ (codes "2" ∷ []) ∷ (codes "2" ∷ codes "a,\"b?" ∷ []) ∷ (codes "128" ∷ [] ∷ []) ∷ []
unfolding digits
columns = refl

-- the names of the columns: the file stands first, and its path next where it is asked for
header_of_commands : csv_text (file_header false Commands ∷ []) ++ csv_text (file_header true Commands ∷ []) ≡ codes "file,command,forked,other,calls,real_ticks,cpu_ticks,io,mem_cpu\n" ++ codes "file,path,command,forked,other,calls,real_ticks,cpu_ticks,io,mem_cpu\n"
unfolding command_header fields_text is_blank
header_of_commands = refl

header_of_users : csv_text (file_header false Users ∷ []) ++ csv_text (file_header true Users ∷ []) ≡ codes "file,uid,calls,real_ticks,cpu_ticks,io,mem_cpu\n" ++ codes "file,path,uid,calls,real_ticks,cpu_ticks,io,mem_cpu\n"
unfolding user_header fields_text is_blank
header_of_users = refl

header_of_named_users : csv_text (file_header false NamedUsers ∷ []) ++ csv_text (file_header true NamedUsers ∷ []) ≡ codes "file,uid,name,calls,real_ticks,cpu_ticks,io,mem_cpu\n" ++ codes "file,path,uid,name,calls,real_ticks,cpu_ticks,io,mem_cpu\n"
unfolding named_user_header fields_text is_blank
header_of_named_users = refl

headers_of_connect : csv_text (map (file_header false) (Connect false false ∷ Connect true false ∷ Connect false true ∷ Connect true true ∷ [])) ++ csv_text (file_header true (Connect true true) ∷ [])
    ≡ codes "file,seconds\nfile,day,seconds\nfile,user,seconds\nfile,day,user,seconds\n" ++ codes "file,path,day,user,seconds\n"
unfolding connect_header fields_text is_blank
headers_of_connect = refl

-- the rows of file 2: its number stands before the fields of each
rows_of_commands : csv_text (file_command_rows numbered (make ∷ [])) ≡ codes "2,make,1,0,4,6000,90,10,4500\n"
unfolding command_fields name_fields sum_fields digits fields_text is_blank
rows_of_commands = refl

rows_of_users : csv_text (file_user_rows numbered (of_user 7 ∷ of_user 1000 ∷ [])) ≡ codes "2,7,4,6000,90,10,4500\n" ++ codes "2,1000,4,6000,90,10,4500\n"
unfolding user_fields sum_fields digits fields_text is_blank
rows_of_users = refl

rows_of_named_users : csv_text (file_named_user_rows numbered names (of_user 0 ∷ of_user 7 ∷ of_user 1000 ∷ [])) ≡ codes "2,0,\"a,b\",4,6000,90,10,4500\n" ++ codes "2,7,,4,6000,90,10,4500\n"
    ++ codes "2,1000,ann,4,6000,90,10,4500\n"
unfolding named_user_fields sum_fields digits escaped fields_text is_blank
rows_of_named_users = refl

-- and its path next, in quotes where it needs them
rows_with_path : csv_text (file_user_rows (file_columns 2 (Some odd)) (of_user 7 ∷ of_user 1000 ∷ [])) ≡ codes "2,\"a,\"\"b?\",7,4,6000,90,10,4500\n" ++ codes "2,\"a,\"\"b?\",1000,4,6000,90,10,4500\n"
unfolding user_fields sum_fields digits escaped fields_text is_blank
rows_with_path = refl

-- connect times by user; and the total alone where nothing is asked for, of whatever rows
abbrev ann : ConnectRow
ann = record { day = None; user = Some (padded 32 (codes "ann")); seconds = 600 }

rows_of_connect : csv_text (file_connect_rows numbered false true (ann ∷ []) 601) ++ csv_text (file_connect_rows (file_columns 3 (Some (codes "w"))) false false (ann ∷ []) 601) ≡ codes "2,ann,600\n" ++ codes "3,w,601\n"
unfolding connect_fields digits fields_text is_blank
rows_of_connect = refl

-- a file in which nothing was used has no row
rows_of_none : csv_text (file_command_rows numbered []) ++ csv_text (file_user_rows numbered []) ++ csv_text (file_named_user_rows numbered names []) ++ csv_text (file_connect_rows numbered true false [] 0) ≡ []
rows_of_none = refl
