-- The output of a job whose files are told apart: by their paths in a table, or each by itself.
use Rattle.std.specs.Prelude.{◌+◌, ◌++◌, ◌∷◌, ◌&&◌, [], ℕ, ℤ, Bool, List, Option, Some, None, true, false, codes, get_or, if◌then◌else◌, length, map, option_map, string_bytes}
use Rattle.std.specs.Borrow.{Bor}
use Rattle.std.specs.List.{flat_map, range_with_len}
use Rattle.tally_clock.specs.Rows.{ClockRows}
use Rattle.tally_answers.specs.declared.question.Answer.{Answer}
use Rattle.tally_answers.specs.declared.question.Answer.TheVariants as answers
use Rattle.tally_line.specs.declared.job.Form.{Form}
use Rattle.tally_line.specs.declared.job.Form.TheVariants.{Text, Csv}
use Rattle.tally_line.specs.declared.job.Job.{Job}
use Rattle.tally_line.specs.declared.job.Report.{Report}
use Rattle.tally_line.specs.declared.job.Report.TheVariants as report
use Rattle.tally_line.specs.declared.line.FileArg.{FileArg}
use Rattle.tally_print.specs.FileColumns.{file_columns}
use Rattle.tally_print.specs.FileUsage.{file_command_rows, file_connect_rows, file_header, file_named_user_rows, file_user_rows, path_line}
use Rattle.tally_print.specs.NamedUsers.{named_user_table_text, named_users_text}
use Rattle.tally_print.specs.PathTable.{path_table_text}
use Rattle.tally_print.specs.Tables.{Row, csv_text}
use Rattle.tally_print.specs.declared.file_usage.FileTable.{FileTable}
use Rattle.tally_print.specs.declared.file_usage.FileTable.TheVariants as tables
use Rattle.tally_print.specs.declared.report_table.Table.{Table}
use Rattle.tally_records.specs.Records.{Records}
use Rattle.tally_records.specs.declared.batch.Kind.{Kind}
use Rattle.tally_sessions.specs.Days.{local}
use Rattle.tally_sessions.specs.Hosts.{entries_of_host}
use Rattle.tally_sessions.specs.declared.entry.Entry.{Entry}
use Rattle.tally_usage.specs.Names.{names_of}
use Rattle.tally_usage.specs.declared.entry.ProcEntry.{ProcEntry}
use Rattle.tally_usage.specs.declared.usage.Usage.{Usage}
use Rattle.tally_usage.specs.declared.user.UidRow.{UidRow}
use Rattle.tally_cli.specs.Output.{answers_of, form_text, login_entries, proc_entries, report_text, table_of}
use Rattle.tally_cli.specs.declared.running.apart.FilesApart.{FilesApart}

-- ---- what is asked

-- the paths of the files, whether each is reported by itself, too, and whether a table has their paths
pub record Apart : Type 0 where
  pub files : List (List ℕ)
  pub by_file : Bool
  pub paths : Bool

-- the paths of files
abbrev pub paths_of : List FileArg → List (List ℕ)
paths_of files = map (λ f. string_bytes f.path) files

abbrev pub apart_of : FilesApart → Apart
apart_of w = record { files = paths_of w.files.now; by_file = w.asked.by_file; paths = w.asked.paths }

-- the path of a file, counted from 0
abbrev pub path_at : Apart → ℕ → List ℕ
path_at apart file = get_or apart.files file []

-- the columns of a file in a table: its number from 1, and its path where paths are asked for
abbrev pub columns_at : Apart → ℕ → Row
columns_at apart file = file_columns (file + 1) (if apart.paths then Some (path_at apart file) else None)

-- ---- the paths of files in a table

-- a report is written as a table
abbrev pub is_csv : Form → Bool
is_csv Text = false
is_csv Csv = true

-- a table is to have the paths of files
abbrev pub has_paths : Apart → Job → Bool
has_paths apart job = apart.paths && is_csv job.form

-- the text of answers as that table, in the local time of a clock, with the paths of files
abbrev pub path_csv_of : Option Table → (ℤ → ℤ) → List (List ℕ) → List Answer → List ℕ
path_csv_of (Some table) clock paths answers = path_table_text table clock paths answers
path_csv_of None clock paths answers = []

-- ---- each file by itself

-- the names of users by number, where they are given
abbrev pub Names : Type 0
Names = Option (List (ℕ × List ℕ))

-- names that are lent
abbrev pub names_given : Option (Bor (List (ℕ × List ℕ))) → Names
names_given lent = option_map (λ names. names.now) lent

-- the text of usage by user in a form, with the names of users
abbrev pub named_text : Form → (ℕ → Option (List ℕ)) → List UidRow → Usage → List ℕ
named_text Text names rows total = named_users_text names rows total
named_text Csv names rows total = named_user_table_text names rows

-- the text of an answer by user where names are given, and of other answers the plain text
abbrev pub named_answers : Form → Names → List Answer → List ℕ → List ℕ
named_answers form (Some names) (answers.Users rows total ∷ []) plain = named_text form (names_of names) rows total
named_answers form names other plain = plain

-- the text of the answers to a job's report, in the time of a clock, with the names of users where they are given
abbrev pub answers_text : ClockRows → Job → Names → List Answer → List ℕ
answers_text clock job names given =
    named_answers job.form names given (form_text job.form job.report (local clock job.offset) job.until given)

-- the rows of a file in a table: the columns of the file, and then the fields of each row of its answer
abbrev pub file_rows : List Answer → Report → Names → Row → List Row
file_rows (answers.Commands rows total ∷ []) r names file = file_command_rows file rows
file_rows (answers.Users rows total ∷ []) r None file = file_user_rows file rows
file_rows (answers.Users rows total ∷ []) r (Some names) file = file_named_user_rows file (names_of names) rows
file_rows (answers.Connect rows total ∷ []) (report.Connect by_day by_user choice) names file = file_connect_rows file by_day by_user rows total
file_rows other r names file = []

-- the table of a report by file
abbrev pub file_table : Report → Names → FileTable
file_table (report.Users order reverse) None = tables.Users
file_table (report.Users order reverse) (Some names) = tables.NamedUsers
file_table (report.Connect by_day by_user choice) names = tables.Connect by_day by_user
file_table r names = tables.Commands

-- a file by itself, whose path this is: in text its report below its path, and in a table its rows
abbrev pub file_text_in : Form → List ℕ → List Row → List ℕ → List ℕ
file_text_in Text path rows text = path_line path ++ (text ++ codes "\n")
file_text_in Csv path rows text = csv_text rows

-- the file with this number, counted from 0, where the answers on it alone are given
abbrev pub file_text : ClockRows → Job → Names → Apart → ℕ → List Answer → List ℕ
file_text clock job names apart file given =
    file_text_in job.form (path_at apart file) (file_rows given job.report names (columns_at apart file)) (answers_text clock job names given)

-- what stands above the files: in a table the names of its columns
abbrev pub files_head : Form → Bool → FileTable → List ℕ
files_head Text paths table = []
files_head Csv paths table = csv_text (file_header paths table ∷ [])

-- what stands below the files: in text the report on all of them
abbrev pub files_tail : Form → List ℕ → List ℕ
files_tail Text text = text
files_tail Csv text = []

-- the texts of the files, what stands above them and what stands below
abbrev pub files_text : Form → Bool → FileTable → List ℕ → List ℕ → List ℕ
files_text form paths table texts all = files_head form paths table ++ (texts ++ files_tail form all)

-- ---- what is printed of login entries

-- a report by file: on the entries of each file alone, and then on all
abbrev pub by_file_text : ClockRows → Apart → Job → List Kind → List Entry → List ProcEntry → List ℕ
by_file_text clock apart job kinds logins procs = files_text job.form apart.paths (file_table job.report None)
    (flat_map (λ file. file_text clock job None apart file (answers_of clock job kinds (entries_of_host file logins) [])) (range_with_len 0 (length kinds)))
    (report_text clock job kinds logins procs)

-- a report of connect time is by file where that is asked
abbrev pub is_by_file : Apart → Report → Bool
is_by_file apart (report.Connect by_day by_user choice) = apart.by_file
is_by_file apart r = false

-- the text of a job's report over these entries, with its files told apart as they are to be
abbrev pub apart_text : ClockRows → Apart → Job → List Kind → List Entry → List ProcEntry → List ℕ
apart_text clock apart job kinds logins procs =
    if is_by_file apart job.report then by_file_text clock apart job kinds logins procs
    else if has_paths apart job then path_csv_of (table_of job.report) (local clock job.offset) apart.files (answers_of clock job kinds logins procs)
    else report_text clock job kinds logins procs

-- the output of a job over files, each a kind and its records
abbrev pub output_apart : ClockRows → Apart → Job → List Kind → List Records → List ℕ
output_apart clock apart job kinds files = apart_text clock apart job kinds (login_entries files) (proc_entries files)
