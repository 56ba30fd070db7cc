-- Worked outputs of whole jobs, computed by the definitions.
use Rattle.std.proofs.Common.{◌≡◌, ℕ, List, [], ◌∷◌, ◌++◌, false, true, map, Option, Some, None, ℤ, pos, refl, replicate}
use Rattle.std.specs.Fmt.{digits}
use Rattle.std.specs.Prelude.{codes}
use Rattle.tally_answers.specs.Answers.{answer_of}
use Rattle.tally_answers.specs.declared.question.Answer.TheVariants as answers
use Rattle.tally_clock.specs.Days.{seconds_from}
use Rattle.tally_clock.specs.Rows.{utc}
use Rattle.tally_desk.specs.Batches.{records_in}
use Rattle.tally_line.specs.declared.job.Form.{Form}
use Rattle.tally_line.specs.declared.job.Form.TheVariants.{Text, Csv}
use Rattle.tally_line.specs.declared.job.Job.{Job}
use Rattle.tally_line.specs.declared.job.Report.{Report}
use Rattle.tally_line.specs.declared.job.Report.TheVariants as report
use Rattle.tally_print.specs.ConnectTable.{connect_fields, connect_header}
use Rattle.tally_print.specs.ConnectText.{connect_line}
use Rattle.tally_print.specs.NamedUsers.{named_user_fields, named_user_header, named_user_line}
use Rattle.tally_print.specs.Sections.{sections_text}
use Rattle.tally_print.specs.StayTable.{end_fields, iso_moment, start_fields, stay_fields, stay_header, who_fields}
use Rattle.tally_print.specs.Tables.{csv_text}
use Rattle.tally_print.specs.Text.{date}
use Rattle.tally_print.specs.UsageTable.{sum_fields, user_fields, user_header}
use Rattle.tally_print.specs.UsageText.{columns, named_total_line}
use Rattle.tally_records.specs.Choice.{every_login}
use Rattle.tally_records.specs.Elapsed.{elapsed_of, rounded_down}
use Rattle.tally_records.specs.Event.{event_of}
use Rattle.tally_records.specs.Period.{always}
use Rattle.tally_records.specs.Records.{Logins, Procs, Records}
use Rattle.tally_records.specs.Sorted.{in_order, insert_in_order}
use Rattle.tally_records.specs.Text.{padded, text_of, u16_at, u32_at}
use Rattle.tally_records.specs.declared.batch.Kind.{Kind}
use Rattle.tally_records.specs.declared.batch.Kind.TheVariants.{Login, Proc}
use Rattle.tally_records.specs.declared.login.LoginRecord.{LoginRecord}
use Rattle.tally_records.specs.declared.process.ProcRecord.{ProcRecord}
use Rattle.tally_sessions.specs.Clock.{pending_old_time}
use Rattle.tally_sessions.specs.Stays.{seconds_of}
use Rattle.tally_sessions.specs.Totals.{every_host}
use Rattle.tally_sessions.specs.declared.entry.End.{End}
use Rattle.tally_sessions.specs.declared.entry.End.TheVariants.{Logout, Still}
use Rattle.tally_sessions.specs.declared.entry.Stay.{Stay}
use Rattle.tally_usage.specs.Choice.{every_proc}
use Rattle.tally_usage.specs.Command.{command_rows}
use Rattle.tally_usage.specs.Usage.{usage_of}
use Rattle.tally_usage.specs.User.{user_rows}
use Rattle.tally_usage.specs.declared.choice.ProcChoice.{ProcChoice}
use Rattle.tally_usage.specs.declared.command.CommandRow.{CommandRow}
use Rattle.tally_usage.specs.declared.order.Order.TheVariants as order
use Rattle.tally_usage.specs.declared.usage.Usage.{Usage}
use Rattle.tally_cli.specs.Apart.{Apart, output_apart}
use Rattle.tally_cli.specs.Runs.{Told}
use Rattle.tally_cli.specs.UsageOutput.{Wanted, usage_printed}
use Rattle.tally_cli.specs.Usages.{count_told}

-- ---- login entries

abbrev utmp : ℕ → List ℕ → ℕ → LoginRecord
utmp kind user time = record { kind = kind; line = padded 32 (codes "tty1"); user = padded 32 user; remote = padded 256 []; time = pos time }

abbrev ann : List ℕ
ann = codes "ann"

abbrev bob : List ℕ
bob = codes "bob"

-- an hour of ann in the first file, and half an hour of bob on the same line in the second
abbrev files : List Records
files = Logins (utmp 7 ann 1000 ∷ utmp 8 [] 4600 ∷ []) ∷ Logins (utmp 7 bob 500 ∷ utmp 8 [] 2300 ∷ []) ∷ []

abbrev kinds : List Kind
kinds = Login ∷ Login ∷ []

abbrev each : Apart
each = record { files = codes "a" ∷ codes "b" ∷ []; by_file = true; paths = true }

abbrev together : Apart
together = record each { by_file = false }

abbrev job : Report → Form → Job
job r form = record { report = r; form = form; millions = 1; feeders = 4; askers = 0; offset = pos 0; until = None }

abbrev by_user : Report
by_user = report.Connect false true every_login

-- in text each file has what is printed of it alone, below its path, and the report on all is the last
by_file : output_apart utc each (job by_user Text) kinds files
    ≡ codes "a:\n" ++ codes "ann                          1.00\n" ++ codes "total                        1.00\n" ++ codes "\n"
    ++ codes "b:\n" ++ codes "bob                          0.50\n" ++ codes "total                        0.50\n" ++ codes "\n"
    ++ codes "ann                          1.00\n" ++ codes "bob                          0.50\n" ++ codes "total                        1.50\n"
unfolding answer_of every_host seconds_of pending_old_time event_of in_order insert_in_order connect_line digits
by_file = refl

-- a table has the rows of each file under one header, with its number and its path, and none of all files
table_by_file : output_apart utc each (job by_user Csv) kinds files
    ≡ csv_text ((codes "file" ∷ codes "path" ∷ codes "user" ∷ codes "seconds" ∷ []) ∷ []) ++ ((csv_text ((codes "1" ∷ codes "a" ∷ codes "ann" ∷ codes "3600" ∷ []) ∷ []) ++ (csv_text ((codes "2" ∷ codes "b" ∷ codes "bob" ∷ codes "1800" ∷ []) ∷ []) ++ [])) ++ [])
unfolding answer_of every_host seconds_of pending_old_time event_of in_order insert_in_order connect_header connect_fields digits
table_by_file = refl

-- rows over all files have no path
table_of_all : output_apart utc together (job by_user Csv) kinds files ≡ csv_text ((codes "user" ∷ codes "seconds" ∷ []) ∷ (codes "ann" ∷ codes "3600" ∷ []) ∷ (codes "bob" ∷ codes "1800" ∷ []) ∷ [])
unfolding answer_of every_host seconds_of pending_old_time event_of in_order insert_in_order connect_header connect_fields digits
table_of_all = refl

-- an hour east of UTC
abbrev east : Job → Job
east job = record job { offset = pos 60 }

abbrev hour_ahead : ℤ → ℤ
hour_ahead time = pos 3600

-- stays have the path of their file, and moments by the local time of the job
table_of_stays : output_apart utc together (east (job (report.Last None every_login false) Csv)) kinds files
    ≡ csv_text ((codes "file" ∷ codes "path" ∷ codes "user" ∷ codes "line" ∷ codes "remote" ∷ codes "start" ∷ codes "start_at" ∷ codes "begin" ∷ codes "end" ∷ codes "end_time" ∷ codes "end_at" ∷ codes "seconds" ∷ [])
    ∷ (codes "1" ∷ codes "a" ∷ codes "ann" ∷ codes "tty1" ∷ [] ∷ codes "1000" ∷ iso_moment (pos 1000) hour_ahead ∷ codes "1000" ∷ codes "logout" ∷ codes "4600" ∷ iso_moment (pos 4600) hour_ahead ∷ codes "3600" ∷ [])
    ∷ (codes "2" ∷ codes "b" ∷ codes "bob" ∷ codes "tty1" ∷ [] ∷ codes "500" ∷ iso_moment (pos 500) hour_ahead ∷ codes "500" ∷ codes "logout" ∷ codes "2300" ∷ iso_moment (pos 2300) hour_ahead ∷ codes "1800" ∷ []) ∷ [])
unfolding answer_of seconds_of pending_old_time event_of stay_header stay_fields who_fields start_fields end_fields digits
table_of_stays = refl

-- ann is there still, counted up to 82803: by an hour east of UTC from two seconds before midnight on
abbrev still : List Records
still = Logins (utmp 7 ann 82798 ∷ []) ∷ []

abbrev up_to : Report → Form → Job
up_to r form = record (east (job r form)) { until = Some (pos 82803) }

-- the days are cut at the job's midnight, and the session lasts up to its moment
by_day : output_apart utc together (up_to (report.Connect true false every_login) Csv) (Login ∷ []) still ≡ csv_text ((codes "day" ∷ codes "seconds" ∷ []) ∷ (date (pos 0) ∷ codes "2" ∷ []) ∷ (date (pos 1) ∷ codes "3" ∷ []) ∷ [])
unfolding answer_of every_host seconds_of pending_old_time event_of seconds_from in_order insert_in_order connect_header connect_fields digits
by_day = refl

abbrev stay : List ℕ → ℤ → End → ℤ → ℕ → Stay
stay user start end end_time length = record {
  host = 0;
  is_boot = false;
  user = padded 32 user;
  line = padded 32 (codes "tty1");
  remote = padded 256 [];
  start = start;
  begin = start;
  end = end;
  end_time = end_time;
  length = length;
}

-- so in the text of its list, which has no path
until : output_apart utc together (up_to (report.Last None every_login false) Text) (Login ∷ []) still
    ≡ sections_text (answers.Last (stay ann (pos 82798) Still (pos 82803) 5 ∷ []) (Some (pos 82798)) ∷ []) hour_ahead (Some (pos 82803))
unfolding answer_of seconds_of pending_old_time event_of
until = refl

-- ---- all reports

-- 60 ticks and 30, a minute elapsed, 50 kB and 3 characters
abbrev make : ProcRecord
make = record { flag = 0; uid = 7; begin = 0; user_ticks = 60; system_ticks = 30; real_ticks = 6000; mem = 50; io = 3; comm = padded 17 (codes "make") }

abbrev usage : Usage
usage = record { count = 1; real = 6000; cpu = 90; io = 3; mem_cpu = 4500 }

abbrev joined : CommandRow
joined = record { name = padded 17 (codes "***other"); forked = false; other = true; usage = usage }

abbrev no_offset : ℤ → ℤ
no_offset time = pos 0

-- the stays of the first file and of the third, then connect time, and the commands of the second, of which one of one call is joined
all_reports : output_apart utc together (job report.All Text) (Login ∷ Proc ∷ Login ∷ []) (Logins (utmp 7 ann 1000 ∷ utmp 8 [] 4600 ∷ []) ∷ Procs (make ∷ []) ∷ Logins [] ∷ [])
    ≡ sections_text (answers.Last (stay ann (pos 1000) Logout (pos 4600) 3600 ∷ []) (Some (pos 1000)) ∷ answers.Last [] None ∷ answers.Connect [] 3600 ∷ answers.Commands (joined ∷ []) usage ∷ []) no_offset None
unfolding answer_of every_host seconds_of pending_old_time event_of command_rows usage_of in_order insert_in_order
all_reports = refl

-- they are no table
no_table : output_apart utc together (job report.All Csv) kinds files ≡ []
unfolding answer_of
no_table = refl

-- ---- processes alone

-- a record of version 3: a user's number, when it began, its ticks, and the command
abbrev proc : ℕ → ℕ → ℕ → List ℕ
proc uid begin ticks = 0 ∷ 3 ∷ replicate 6 0 ++ uid ∷ replicate 15 0 ++ begin ∷ replicate 7 0 ++ ticks ∷ replicate 15 0 ++ codes "make" ++ replicate 12 0

-- 60 ticks of 7 at 5 and 90 of 8 at 9 in the first file, and 150 of 7 at 8 in the second
abbrev inputs : List Told
inputs = record { kind = Proc; bytes = proc 7 5 60 ++ proc 8 9 90 } ∷ record { kind = Proc; bytes = proc 7 8 150 } ∷ []

abbrev of_seven : ProcChoice
of_seven = record { uids = Some 7 ∷ replicate 7 None; period = always }

abbrev counted : ProcChoice → ℕ
counted choice = count_told choice inputs

-- those of a user are counted, of either of two, of one that has none, and of all
by_uids : map counted (of_seven ∷ record every_proc { uids = Some 8 ∷ Some 7 ∷ replicate 6 None } ∷ record every_proc { uids = replicate 7 None ++ Some 9 ∷ [] } ∷ every_proc ∷ []) ≡ 2 ∷ 3 ∷ 0 ∷ 3 ∷ []
unfolding records_in elapsed_of rounded_down text_of u32_at u16_at
by_uids = refl

abbrev in_time : Option ℤ → Option ℤ → ProcChoice
in_time from to = record every_proc { period = record { from = from; to = to } }

-- a period has the processes that began at its first second or later, and before its end
by_time : map counted (in_time (Some (pos 5)) (Some (pos 9)) ∷ in_time (Some (pos 6)) (Some (pos 9)) ∷ in_time None (Some (pos 8)) ∷ in_time (Some (pos 9)) None ∷ []) ≡ 2 ∷ 1 ∷ 1 ∷ 1 ∷ []
unfolding records_in elapsed_of rounded_down text_of u32_at u16_at
by_time = refl

abbrev users : Report
users = report.Users order.Cpu false

-- those of 7, and the names of two
abbrev wanted : Apart → Wanted
wanted apart = record { choice = of_seven; names = Some ((7, ann) ∷ (8, bob) ∷ []); apart = apart }

-- each file by itself, with names, and then all files together
usage_by_file : usage_printed utc (job users Text) (wanted each) inputs
    ≡ codes "a:\n" ++ codes "total             1         0.00re         0.01cp          0avio          0k\n" ++ codes "ann               1         0.00re         0.01cp          0avio          0k\n" ++ codes "\n"
    ++ codes "b:\n" ++ codes "total             1         0.00re         0.03cp          0avio          0k\n" ++ codes "ann               1         0.00re         0.03cp          0avio          0k\n" ++ codes "\n"
    ++ codes "total             2         0.00re         0.04cp          0avio          0k\n" ++ codes "ann               2         0.00re         0.04cp          0avio          0k\n"
unfolding answer_of user_rows usage_of in_order insert_in_order named_total_line named_user_line columns records_in elapsed_of rounded_down text_of u32_at u16_at digits
usage_by_file = refl

-- a table has no rows of all files
usage_table_by_file : usage_printed utc (job users Csv) (wanted each) inputs
    ≡ csv_text ((codes "file" ∷ codes "path" ∷ codes "uid" ∷ codes "name" ∷ codes "calls" ∷ codes "real_ticks" ∷ codes "cpu_ticks" ∷ codes "io" ∷ codes "mem_cpu" ∷ []) ∷ [])
    ++ ((csv_text ((codes "1" ∷ codes "a" ∷ codes "7" ∷ codes "ann" ∷ codes "1" ∷ codes "0" ∷ codes "60" ∷ codes "0" ∷ codes "0" ∷ []) ∷ []) ++ (csv_text ((codes "2" ∷ codes "b" ∷ codes "7" ∷ codes "ann" ∷ codes "1" ∷ codes "0" ∷ codes "150" ∷ codes "0" ∷ codes "0" ∷ []) ∷ []) ++ [])) ++ [])
unfolding answer_of user_rows usage_of in_order insert_in_order named_user_header named_user_fields sum_fields records_in elapsed_of rounded_down text_of u32_at u16_at digits
usage_table_by_file = refl

-- all files together, with names and without them
usage_of_all : usage_printed utc (job users Csv) (wanted together) inputs ∷ usage_printed utc (job users Csv) (record (wanted together) { names = None }) inputs ∷ []
    ≡ csv_text ((codes "uid" ∷ codes "name" ∷ codes "calls" ∷ codes "real_ticks" ∷ codes "cpu_ticks" ∷ codes "io" ∷ codes "mem_cpu" ∷ []) ∷ (codes "7" ∷ codes "ann" ∷ codes "2" ∷ codes "0" ∷ codes "210" ∷ codes "0" ∷ codes "0" ∷ []) ∷ [])
    ∷ csv_text ((codes "uid" ∷ codes "calls" ∷ codes "real_ticks" ∷ codes "cpu_ticks" ∷ codes "io" ∷ codes "mem_cpu" ∷ []) ∷ (codes "7" ∷ codes "2" ∷ codes "0" ∷ codes "210" ∷ codes "0" ∷ codes "0" ∷ []) ∷ []) ∷ []
unfolding answer_of user_rows usage_of in_order insert_in_order named_user_header named_user_fields user_header user_fields sum_fields records_in elapsed_of rounded_down text_of u32_at u16_at digits
usage_of_all = refl
