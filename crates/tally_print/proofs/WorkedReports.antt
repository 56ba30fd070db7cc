-- Worked lines and tables of reports, computed by the definitions.
use Rattle.std.proofs.Common.{◌≡◌, [], ◌∷◌, ◌++◌, drop, map, Bool, true, false, Some, None, ℤ, pos, refl}
use Rattle.std.specs.Fmt.{digits}
use Rattle.std.specs.Prelude.{codes}
use Rattle.csv.specs.Machine.{next_record}
use Rattle.csv.specs.Reading.{records_from, strip_bom}
use Rattle.csv.specs.Writing.{fields_text, is_blank}
use Rattle.tally_answers.specs.declared.question.Answer.TheVariants as answers
use Rattle.tally_answers.specs.declared.question.ConnectRow.{ConnectRow}
use Rattle.tally_records.specs.Period.{always}
use Rattle.tally_records.specs.Text.{padded}
use Rattle.tally_sessions.specs.declared.entry.End.{End}
use Rattle.tally_sessions.specs.declared.entry.End.TheVariants.{Logout, Next, Down, Crash, Still}
use Rattle.tally_sessions.specs.declared.entry.Stay.{Stay}
use Rattle.tally_usage.specs.declared.command.CommandRow.{CommandRow}
use Rattle.tally_usage.specs.declared.usage.Usage.{Usage}
use Rattle.tally_usage.specs.declared.user.UidRow.{UidRow}
use Rattle.tally_print.specs.ConnectTable.{connect_fields, connect_header}
use Rattle.tally_print.specs.LastText.{ending, line_column, user_column}
use Rattle.tally_print.specs.ReportTable.{answer_rows, connect_rows, header, table_text}
use Rattle.tally_print.specs.StayTable.{end_fields, end_word, part_fields, part_header, start_fields, stay_fields, stay_header, who_fields}
use Rattle.tally_print.specs.Tables.{csv_rows, last_number}
use Rattle.tally_print.specs.Text.{beginning, date, span}
use Rattle.tally_print.specs.UsageTable.{command_fields, command_header, name_fields, sum_fields, user_fields, user_header}
use Rattle.tally_print.specs.UsageText.{average, columns, command_line, named_total_line, total_line, user_line}
use Rattle.tally_print.specs.declared.report_table.Table.TheVariants.{Stays, Connect, Commands, Users}

-- averages are rounded down, and 0 of nothing
averages : average 5 3 ∷ average 3 2 ∷ average 1 2 ∷ average 6 3 ∷ average 7 0 ∷ [] ≡ 1 ∷ 1 ∷ 0 ∷ 2 ∷ 0 ∷ []
averages = refl

-- the words of a table for each end
end_words : map end_word (Logout ∷ Next ∷ Down ∷ Crash ∷ Still ∷ []) ≡ codes "logout" ∷ codes "next" ∷ codes "down" ∷ codes "crash" ∷ codes "still" ∷ []
end_words = refl

abbrev stay : Bool → End → Stay
stay is_boot end = record {
  host = 1;
  is_boot = is_boot;
  user = padded 32 (codes "ann");
  line = padded 32 (codes "tty1");
  remote = padded 256 (codes "far");
  start = pos 200;
  begin = pos 200;
  end = end;
  end_time = pos 1000;
  length = 800;
}

abbrev utc : ℤ → ℤ
utc time = pos 0

-- what is printed after the start of a stay that a shutdown ended, a boot, or nothing
endings : map (λ end. ending end (stay false end) utc None) (Down ∷ Crash ∷ Still ∷ []) ≡ codes " - down                (00:13)" ∷ codes " - crash               (00:13)" ∷ codes "   still logged in" ∷ []
unfolding ending span digits
endings = refl

running_endings : map (λ end. ending end (stay true end) utc None) (Down ∷ Crash ∷ Still ∷ []) ≡ codes " - down                (00:13)" ∷ codes " - crash               (00:13)" ∷ codes "   still running" ∷ []
unfolding ending span digits
running_endings = refl

-- up to a moment the span of a stay that goes on is printed too
until_endings : ending Still (stay false Still) utc (Some (pos 1000)) ∷ ending Still (stay true Still) utc (Some (pos 1000)) ∷ [] ≡ codes " - still logged in     (00:13)" ∷ codes " - still running       (00:13)" ∷ []
unfolding ending span digits
until_endings = refl

-- a boot has words of its own in place of a user and a line
columns_of_stays : map user_column (stay false Still ∷ stay true Still ∷ []) ++ map line_column (stay false Still ∷ stay true Still ∷ []) ≡ codes "ann" ∷ codes "reboot" ∷ codes "tty1" ∷ codes "system boot" ∷ []
columns_of_stays = refl

-- in a table a boot has no line, and files count from 1
who : map who_fields (stay false Still ∷ stay true Still ∷ []) ≡ (codes "2" ∷ codes "ann" ∷ codes "tty1" ∷ codes "far" ∷ []) ∷ (codes "2" ∷ codes "reboot" ∷ [] ∷ codes "far" ∷ []) ∷ []
unfolding who_fields digits
who = refl

-- a host without records says so
no_records : beginning (codes "wtmp") None utc ≡ codes "wtmp has no records\n"
unfolding beginning
no_records = refl

-- the names of each table's columns
headers : map header (Stays None ∷ Commands ∷ Users ∷ []) ≡ (codes "file" ∷ codes "user" ∷ codes "line" ∷ codes "remote" ∷ codes "start" ∷ codes "start_at" ∷ codes "begin" ∷ codes "end" ∷ codes "end_time" ∷ codes "end_at" ∷ codes "seconds" ∷ [])
    ∷ (codes "command" ∷ codes "forked" ∷ codes "other" ∷ codes "calls" ∷ codes "real_ticks" ∷ codes "cpu_ticks" ∷ codes "io" ∷ codes "mem_cpu" ∷ [])
    ∷ (codes "uid" ∷ codes "calls" ∷ codes "real_ticks" ∷ codes "cpu_ticks" ∷ codes "io" ∷ codes "mem_cpu" ∷ []) ∷ []
unfolding stay_header command_header user_header
headers = refl

-- with a period, the table of stays has one column more
part_headers : header (Stays (Some always)) ≡ codes "file" ∷ codes "user" ∷ codes "line" ∷ codes "remote" ∷ codes "start" ∷ codes "start_at" ∷ codes "begin" ∷ codes "end" ∷ codes "end_time" ∷ codes "end_at" ∷ codes "seconds" ∷ codes "within" ∷ []
unfolding part_header stay_header
part_headers = refl

-- and a row has the seconds of its stay, and after them those in the period
part_row : map (λ end. drop 10 (part_fields utc (record { from = Some (pos 300); to = Some (pos 2000) }) (stay false end))) (Logout ∷ Still ∷ []) ≡ (codes "800" ∷ codes "700" ∷ []) ∷ (codes "800" ∷ codes "700" ∷ []) ∷ []
unfolding part_fields stay_fields who_fields start_fields end_fields digits
part_row = refl

connect_headers : map header (Connect false false ∷ Connect true false ∷ Connect false true ∷ Connect true true ∷ []) ≡ (codes "seconds" ∷ []) ∷ (codes "day" ∷ codes "seconds" ∷ []) ∷ (codes "user" ∷ codes "seconds" ∷ []) ∷ (codes "day" ∷ codes "user" ∷ codes "seconds" ∷ []) ∷ []
unfolding connect_header
connect_headers = refl

-- the total is a row of its own only where nothing else is asked for
totals : map (λ by_day. connect_rows by_day false [] 3600) (false ∷ true ∷ []) ≡ (record { day = None; user = None; seconds = 3600 } ∷ []) ∷ [] ∷ []
totals = refl

-- the seconds of a user in a table are whole
user_seconds : connect_fields false true (record { day = None; user = Some (padded 32 (codes "ann")); seconds = 600 }) ≡ codes "ann" ∷ codes "600" ∷ []
unfolding connect_fields digits
user_seconds = refl

abbrev forked : Usage
forked = record { count = 2; real = 120; cpu = 120; io = 6; mem_cpu = 24000 }

abbrev make : Bool → Bool → CommandRow
make forks other = record { name = padded 17 (codes "make"); forked = forks; other = other; usage = forked }

-- a command that forked has a star behind its name
starred : map command_line (make true false ∷ make false false ∷ []) ≡ codes "       2         0.02re         0.02cp          3avio        200k make*\n" ∷ codes "       2         0.02re         0.02cp          3avio        200k make\n" ∷ []
unfolding command_line columns digits
starred = refl

-- the total of commands has no name, and that of users has one; users go by number
usage_lines : total_line forked ∷ named_total_line forked ∷ user_line (record { uid = 1000; usage = forked }) ∷ [] ≡ codes "       2         0.02re         0.02cp          3avio        200k\n" ∷ codes "total             2         0.02re         0.02cp          3avio        200k\n" ∷ codes "1000              2         0.02re         0.02cp          3avio        200k\n" ∷ []
unfolding total_line named_total_line user_line columns digits
usage_lines = refl

-- in a table marks are 0 and 1, and sums are whole
command_row : map command_fields (make true false ∷ make false true ∷ []) ≡ (codes "make" ∷ codes "1" ∷ codes "0" ∷ codes "2" ∷ codes "120" ∷ codes "120" ∷ codes "6" ∷ codes "24000" ∷ [])
    ∷ (codes "make" ∷ codes "0" ∷ codes "1" ∷ codes "2" ∷ codes "120" ∷ codes "120" ∷ codes "6" ∷ codes "24000" ∷ []) ∷ []
unfolding command_fields name_fields sum_fields digits
command_row = refl

user_row : user_fields (record { uid = 66536; usage = forked }) ≡ codes "66536" ∷ codes "2" ∷ codes "120" ∷ codes "120" ∷ codes "6" ∷ codes "24000" ∷ []
unfolding user_fields sum_fields digits
user_row = refl

-- ---- whole tables

-- a day is a date, and stands before the user; what a row has not is empty
abbrev on_day : ConnectRow
on_day = record { day = Some (pos 3); user = Some (padded 32 (codes "ann")); seconds = 600 }

connect_columns : connect_fields true true on_day ∷ connect_fields true false on_day ∷ connect_fields false false on_day ∷ connect_fields true true (record { day = None; user = None; seconds = 7 }) ∷ []
    ≡ (date (pos 3) ∷ codes "ann" ∷ codes "600" ∷ []) ∷ (date (pos 3) ∷ codes "600" ∷ []) ∷ (codes "600" ∷ []) ∷ ([] ∷ [] ∷ codes "7" ∷ []) ∷ []
unfolding connect_fields digits
connect_columns = refl

abbrev of_user : UidRow
of_user = record { uid = 66536; usage = forked }

-- the names of the columns stand once, and then the rows of each answer
command_table : table_text Commands utc (answers.Commands (make true false ∷ []) forked ∷ answers.Commands [] forked ∷ answers.Commands (make false true ∷ []) forked ∷ [])
    ≡ codes "command,forked,other,calls,real_ticks,cpu_ticks,io,mem_cpu\n" ++ codes "make,1,0,2,120,120,6,24000\n" ++ codes "make,0,1,2,120,120,6,24000\n"
unfolding command_header command_fields name_fields sum_fields digits fields_text is_blank
command_table = refl

user_table : table_text Users utc (answers.Users (of_user ∷ []) forked ∷ []) ≡ codes "uid,calls,real_ticks,cpu_ticks,io,mem_cpu\n" ++ codes "66536,2,120,120,6,24000\n"
unfolding user_header user_fields sum_fields digits fields_text is_blank
user_table = refl

-- connect time by user has a row for each, and in total alone that of the total
connect_tables : table_text (Connect false true) utc (answers.Connect (on_day ∷ []) 700 ∷ []) ∷ table_text (Connect false false) utc (answers.Connect (on_day ∷ []) 700 ∷ []) ∷ [] ≡ (codes "user,seconds\n" ++ codes "ann,600\n") ∷ (codes "seconds\n" ++ codes "700\n") ∷ []
unfolding connect_header connect_fields digits fields_text is_blank
connect_tables = refl

-- an answer to another kind of question has no rows, and a report with no rows is its header
of_another_kind : answer_rows Commands utc (answers.Users (of_user ∷ []) forked) ∷ answer_rows Users utc (answers.Commands (make true false ∷ []) forked) ∷ answer_rows (Connect true true) utc (answers.Users (of_user ∷ []) forked) ∷ answer_rows (Stays None) utc (answers.Connect (on_day ∷ []) 600) ∷ []
    ≡ [] ∷ [] ∷ [] ∷ [] ∷ []
of_another_kind = refl

no_rows : table_text Users utc [] ∷ table_text (Connect true false) utc (answers.Connect [] 0 ∷ []) ∷ [] ≡ codes "uid,calls,real_ticks,cpu_ticks,io,mem_cpu\n" ∷ codes "day,seconds\n" ∷ []
unfolding user_header connect_header fields_text is_blank
no_rows = refl

-- the last field of a row is a number
last_numbers : map last_number ((codes "ann" ∷ codes "600" ∷ []) ∷ (codes "1,2" ∷ codes "0" ∷ []) ∷ []) ≡ 600 ∷ 0 ∷ []
last_numbers = refl

-- what is read of a table: quotes stand around a field that has a comma or a quote, and a byte order mark at the beginning is none of a field
read : csv_rows (239 ∷ 187 ∷ 191 ∷ codes "user,seconds\n" ++ codes "\"a,\"\"b\",7\n" ++ codes ",0\n") ≡ (codes "user" ∷ codes "seconds" ∷ []) ∷ (codes "a,\"b" ∷ codes "7" ∷ []) ∷ ([] ∷ codes "0" ∷ []) ∷ []
unfolding strip_bom records_from next_record
read = refl
