-- Worked examples of files that are told apart, computed by the definitions.
use Rattle.std.proofs.Common.{◌≡◌, [], ◌∷◌, ◌++◌, ℕ, ℤ, List, None, Some, false, map, refl, sym, true}
use Rattle.std.specs.Fmt.{digits}
use Rattle.std.specs.Prelude.{codes, pos}
use Rattle.tally_answers.specs.declared.question.Answer.TheVariants as answers
use Rattle.tally_clock.specs.Rows.{ClockRows}
use Rattle.tally_line.specs.declared.job.Form.{Form}
use Rattle.tally_line.specs.declared.job.Form.TheVariants.{Text, Csv}
use Rattle.tally_line.specs.declared.job.Job.{Job}
use Rattle.tally_line.specs.declared.job.Report.{Report}
use Rattle.tally_line.specs.declared.job.Report.TheVariants as report
use Rattle.tally_print.specs.AttemptTable.{attempt_sum_fields, attempt_sum_header}
use Rattle.tally_print.specs.ConnectTable.{connect_fields, connect_header}
use Rattle.tally_print.specs.NamedUsers.{named_user_fields, named_user_header, named_user_line}
use Rattle.tally_print.specs.UsageTable.{command_fields, name_fields, sum_fields, user_fields}
use Rattle.tally_print.specs.UsageText.{columns as usage_columns, named_total_line}
use Rattle.tally_print.specs.Tables.{csv_text}
use Rattle.tally_print.specs.declared.file_usage.FileTable.TheVariants as tables
use Rattle.tally_print.specs.declared.report_table.Table.TheVariants as table
use Rattle.tally_records.specs.Choice.{every_login}
use Rattle.tally_records.specs.Text.{padded}
use Rattle.tally_records.specs.declared.batch.Kind.{Kind}
use Rattle.tally_sessions.specs.declared.entry.Entry.{Entry}
use Rattle.tally_usage.specs.declared.entry.ProcEntry.{ProcEntry}
use Rattle.tally_usage.specs.declared.command.CommandRow.{CommandRow}
use Rattle.tally_usage.specs.declared.order.Order.TheVariants as order
use Rattle.tally_usage.specs.declared.usage.Usage.{Usage}
use Rattle.tally_usage.specs.declared.user.UidRow.{UidRow}
use Rattle.tally_cli.proofs.ByFile.{plain_printed}
use Rattle.tally_cli.specs.Apart.{Apart, apart_text, columns_at, file_rows, file_table, file_text_in, files_text, has_paths, is_by_file, named_answers, path_csv_of}
use Rattle.tally_cli.specs.Output.{report_text}

-- two files, each by itself, with their paths
abbrev two : Apart
two = record { files = codes "a" ∷ codes "b" ∷ []; by_file = true; paths = true }

-- a file's number counts from 1, and its path is the word at its place; a file that no word names has an empty one
columns : columns_at two 0 ∷ columns_at two 1 ∷ columns_at two 2 ∷ columns_at (record two { paths = false }) 1 ∷ []
    ≡ (codes "1" ∷ codes "a" ∷ []) ∷ (codes "2" ∷ codes "b" ∷ []) ∷ (codes "3" ∷ [] ∷ []) ∷ (codes "2" ∷ []) ∷ []
unfolding digits
columns = refl

-- an hour of the second file, summed neither by day nor by user
hour : file_rows (answers.Connect [] 3600 ∷ []) (report.Connect false false every_login) None (columns_at two 1) ≡ (codes "2" ∷ codes "b" ∷ codes "3600" ∷ []) ∷ []
unfolding connect_fields digits
hour = refl

-- four calls: a minute elapsed, 90 ticks of cpu
abbrev four : Usage
four = record { count = 4; real = 6000; cpu = 90; io = 10; mem_cpu = 4500 }

abbrev make : CommandRow
make = record { name = padded 17 (codes "make"); forked = true; other = false; usage = four }

abbrev seven : UidRow
seven = record { uid = 7; usage = four }

abbrev names : List (ℕ × List ℕ)
names = (7, codes "ann") ∷ []

-- rows by command, by user, and by user where users have names, each after the columns of the file
usage_rows : file_rows (answers.Commands (make ∷ []) four ∷ []) (report.Commands order.Cpu false false) None (columns_at two 1)
    ++ file_rows (answers.Users (seven ∷ []) four ∷ []) (report.Users order.Cpu false) None (columns_at two 1)
    ++ file_rows (answers.Users (seven ∷ []) four ∷ []) (report.Users order.Cpu false) (Some names) (columns_at two 0)
    ≡ (codes "2" ∷ codes "b" ∷ codes "make" ∷ codes "1" ∷ codes "0" ∷ codes "4" ∷ codes "6000" ∷ codes "90" ∷ codes "10" ∷ codes "4500" ∷ [])
    ∷ (codes "2" ∷ codes "b" ∷ codes "7" ∷ codes "4" ∷ codes "6000" ∷ codes "90" ∷ codes "10" ∷ codes "4500" ∷ [])
    ∷ (codes "1" ∷ codes "a" ∷ codes "7" ∷ codes "ann" ∷ codes "4" ∷ codes "6000" ∷ codes "90" ∷ codes "10" ∷ codes "4500" ∷ []) ∷ []
unfolding command_fields name_fields user_fields named_user_fields sum_fields digits
usage_rows = refl

-- other answers have no rows by file
no_usage_rows : file_rows (answers.Last [] None ∷ []) (report.Last None every_login false) None (columns_at two 0) ++ file_rows (answers.Connect [] 3600 ∷ []) report.All None (columns_at two 0) ++ file_rows [] (report.Users order.Cpu false) None (columns_at two 0) ≡ []
no_usage_rows = refl

-- users have names where these are given, in text and in a table
named_users : named_answers Text (Some names) (answers.Users (seven ∷ []) four ∷ []) (codes "plain") ∷ named_answers Csv (Some names) (answers.Users (seven ∷ []) four ∷ []) (codes "plain") ∷ []
    ≡ (codes "total             4         1.00re         0.02cp          2avio         50k\n" ++ codes "ann               4         1.00re         0.02cp          2avio         50k\n") ∷ csv_text ((codes "uid" ∷ codes "name" ∷ codes "calls" ∷ codes "real_ticks" ∷ codes "cpu_ticks" ∷ codes "io" ∷ codes "mem_cpu" ∷ [])
    ∷ (codes "7" ∷ codes "ann" ∷ codes "4" ∷ codes "6000" ∷ codes "90" ∷ codes "10" ∷ codes "4500" ∷ []) ∷ []) ∷ []
unfolding named_total_line named_user_line usage_columns named_user_header named_user_fields sum_fields digits
named_users = refl

-- without names, and of other answers, the text is the plain one
plain_answers : named_answers Text None (answers.Users (seven ∷ []) four ∷ []) (codes "plain") ∷ named_answers Csv (Some names) (answers.Commands (make ∷ []) four ∷ []) (codes "plain") ∷ named_answers Text (Some names) [] (codes "plain") ∷ []
    ≡ codes "plain" ∷ codes "plain" ∷ codes "plain" ∷ []
plain_answers = refl

-- the table of each report by file
tables_of : file_table (report.Connect true false every_login) None ∷ file_table (report.Commands order.Cpu false true) None ∷ file_table (report.Users order.Cpu false) None ∷ []
    ≡ tables.Connect true false ∷ tables.Commands ∷ tables.Users ∷ []
tables_of = refl

-- the table of users has their names where these are given, and no other has
named_tables : map (λ r. file_table r (Some names)) (report.Users order.Calls true ∷ report.Commands order.Cpu false true ∷ report.Connect false true every_login ∷ []) ≡ tables.NamedUsers ∷ tables.Commands ∷ tables.Connect false true ∷ []
named_tables = refl

-- in text a report stands below the path of its file, an empty line after it, and the report on all below the last
around : files_text Text true tables.Commands (file_text_in Text (codes "a") [] (codes "one\n")) (codes "all\n") ≡ codes "a:\none\n\nall\n"
around = refl

-- in a table the rows of a file stand alone, below the names of the columns, and nothing stands below the last
around_rows : files_text Csv true (tables.Connect true false) (file_text_in Csv (codes "a") ((codes "1" ∷ codes "x,y" ∷ []) ∷ []) (codes "one\n")) (codes "all\n")
    ∷ files_text Csv false (tables.Connect false false) [] (codes "all\n") ∷ []
    ≡ (csv_text ((codes "file" ∷ codes "path" ∷ codes "day" ∷ codes "seconds" ∷ []) ∷ []) ++ (csv_text ((codes "1" ∷ codes "x,y" ∷ []) ∷ []) ++ []))
    ∷ (csv_text ((codes "file" ∷ codes "seconds" ∷ []) ∷ []) ++ []) ∷ []
unfolding connect_header
around_rows = refl

-- connect time alone is by file beside what a book answers
by_file : map (is_by_file two) (report.Connect true true every_login ∷ report.Last None every_login false ∷ report.Attempts None every_login ∷ report.AttemptSums None every_login ∷ report.Commands order.Cpu false false ∷ report.Users order.Cpu false ∷ report.All ∷ [])
    ≡ true ∷ false ∷ false ∷ false ∷ false ∷ false ∷ false ∷ []
by_file = refl

abbrev job_in : Form → Job
job_in form = record { report = report.All; form = form; millions = 1; feeders = 4; askers = 0; offset = pos 0; until = None }

-- a text has no path, and a table has paths where they are asked for
shown : has_paths two (job_in Text) ∷ has_paths two (job_in Csv) ∷ has_paths (record two { paths = false }) (job_in Csv) ∷ [] ≡ false ∷ true ∷ false ∷ []
shown = refl

abbrev no_offset : ℤ → ℤ
no_offset time = pos 0

-- a table that has no file has no path, and a report that is no table has no text as one
tables_with_paths : path_csv_of (Some table.AttemptSums) no_offset (codes "a" ∷ []) (answers.AttemptSums (record { user = padded 32 (codes "root"); remote = padded 256 (codes "far"); attempts = 3 } ∷ []) ∷ [])
    ∷ path_csv_of None no_offset (codes "a" ∷ []) (answers.Connect [] 3600 ∷ []) ∷ []
    ≡ csv_text ((codes "user" ∷ codes "remote" ∷ codes "attempts" ∷ []) ∷ (codes "root" ∷ codes "far" ∷ codes "3" ∷ []) ∷ []) ∷ [] ∷ []
unfolding attempt_sum_header attempt_sum_fields digits
tables_with_paths = refl

-- ---- where nothing is asked

abbrev together : Apart
together = record { files = []; by_file = false; paths = false }

no_file : (r : Report) → is_by_file together r ≡ false
no_file (report.Last limit choice within) = refl
no_file (report.Attempts limit choice) = refl
no_file (report.AttemptSums limit choice) = refl
no_file (report.Connect by_day by_user choice) = refl
no_file (report.Commands order reverse all) = refl
no_file (report.Users order reverse) = refl
no_file report.All = refl

-- a report is as it is without files told apart
as_before : (clock : ClockRows) (job : Job) (kinds : List Kind) (logins : List Entry) (procs : List ProcEntry) → apart_text clock together job kinds logins procs ≡ report_text clock job kinds logins procs
as_before clock job kinds logins procs = sym (plain_printed clock together job kinds logins procs (no_file job.report) refl)
