-- The text of a report, as a function of the job and the entries alone.
use Rattle.std.specs.Prelude.{◌++◌, ◌∷◌, [], ℕ, ℤ, Bool, List, Option, Some, None, false, true, if◌then◌else◌, length, map, filter}
use Rattle.std.specs.List.{enumerate_from, flat_map, range_with_len}
use Rattle.tally_clock.specs.Rows.{ClockRows}
use Rattle.tally_answers.specs.declared.question.Question.{Question}
use Rattle.tally_answers.specs.declared.question.Question.TheVariants as questions
use Rattle.tally_answers.specs.Answers.{answer_of}
use Rattle.tally_answers.specs.declared.question.Answer.{Answer}
use Rattle.tally_print.specs.ReportTable.{table_text}
use Rattle.tally_print.specs.Sections.{sections_text}
use Rattle.tally_print.specs.declared.report_table.Table.{Table}
use Rattle.tally_print.specs.declared.report_table.Table.TheVariants as tables
use Rattle.tally_records.specs.Choice.{every_login}
use Rattle.tally_records.specs.Records.{Records, logins_in, procs_in}
use Rattle.tally_records.specs.declared.choice.LoginChoice.{LoginChoice}
use Rattle.tally_records.specs.declared.batch.Kind.{Kind}
use Rattle.tally_records.specs.declared.batch.Kind.TheVariants.{FailedLogin, Login, Proc}
use Rattle.tally_sessions.specs.Days.{local}
use Rattle.tally_sessions.specs.Hosts.{posted_by}
use Rattle.tally_sessions.specs.declared.entry.Entry.{Entry}
use Rattle.tally_usage.specs.Summary.{entries_of}
use Rattle.tally_usage.specs.declared.entry.ProcEntry.{ProcEntry}
use Rattle.tally_usage.specs.declared.order.Order.TheVariants as order
use Rattle.tally_line.specs.declared.job.Form.{Form}
use Rattle.tally_line.specs.declared.job.Form.TheVariants.{Text, Csv}
use Rattle.tally_line.specs.declared.job.Job.{Job}
use Rattle.tally_line.specs.declared.job.Report.{Report}
use Rattle.tally_line.specs.declared.job.Report.TheVariants.{Last, Attempts, AttemptSums, Connect, Commands, Users, All}

-- a file is of the wanted kind, if one is wanted
abbrev pub is_wanted : Option Kind → Kind → Bool
is_wanted None kind = true
is_wanted (Some Login) Login = true
is_wanted (Some FailedLogin) FailedLogin = true
is_wanted (Some Proc) Proc = true
is_wanted wanted kind = false

-- the questions for the chosen stays of each file of the wanted kind, whose number is its host, up to a moment if one is given
abbrev pub stays_asked : Option Kind → Option ℕ → LoginChoice → List Kind → Option ℤ → List Question
stays_asked wanted limit choice kinds until = map (λ numbered. questions.Last numbered.0 limit choice until)
    (filter (λ numbered. is_wanted wanted numbered.1) (enumerate_from 0 kinds))

-- the questions for the chosen failed logins of each file
abbrev pub attempts_asked : Option ℕ → LoginChoice → List Kind → List Question
attempts_asked limit choice kinds = map (λ host. questions.Attempts host limit choice) (range_with_len 0 (length kinds))

-- the questions of a report on files of these kinds, in the order of their sections
abbrev pub questions_of : Report → ℤ → List Kind → Option ℤ → List Question
questions_of (Last limit choice within) offset kinds until = stays_asked None limit choice kinds until
questions_of (Attempts limit choice) offset kinds until = attempts_asked limit choice kinds
questions_of (AttemptSums limit choice) offset kinds until = questions.AttemptSums limit choice ∷ []
questions_of (Connect by_day by_user choice) offset kinds until = questions.Connect by_day by_user offset choice until ∷ []
questions_of (Commands by reverse all) offset kinds until = questions.Commands by reverse all ∷ []
questions_of (Users by reverse) offset kinds until = questions.Users by reverse ∷ []
questions_of All offset kinds until = stays_asked (Some Login) None every_login kinds until
    ++ questions.Connect false false offset every_login until ∷ questions.Commands order.Cpu false false ∷ []

-- the login entries of files, each under its number
abbrev pub login_entries : List Records → List Entry
login_entries files = flat_map (λ numbered. posted_by numbered.0 (logins_in numbered.1)) (enumerate_from 0 files)

-- the process entries of files, each under its number
abbrev pub proc_entries : List Records → List ProcEntry
proc_entries files = flat_map (λ numbered. entries_of numbered.0 (procs_in numbered.1)) (enumerate_from 0 files)

-- the table that a report is as CSV, with the seconds in the period where they are asked for; a report of all is none
abbrev pub table_of : Report → Option Table
table_of (Last limit choice within) = Some (tables.Stays (if within then Some choice.period else None))
table_of (Attempts limit choice) = Some tables.Attempts
table_of (AttemptSums limit choice) = Some tables.AttemptSums
table_of (Connect by_day by_user choice) = Some (tables.Connect by_day by_user)
table_of (Commands by reverse all) = Some tables.Commands
table_of (Users by reverse) = Some tables.Users
table_of All = None

-- the text of answers as that table, in the local time of a clock
abbrev pub csv_of : Option Table → (ℤ → ℤ) → List Answer → List ℕ
csv_of (Some table) clock answers = table_text table clock answers
csv_of None clock answers = []

-- the text of a report's answers in a form
abbrev pub form_text : Form → Report → (ℤ → ℤ) → Option ℤ → List Answer → List ℕ
form_text Text report clock until answers = sections_text answers clock until
form_text Csv report clock until answers = csv_of (table_of report) clock answers

-- the answers to a report's questions over login and process entries, of which each file of these kinds is a host
abbrev pub answers_of : ClockRows → Job → List Kind → List Entry → List ProcEntry → List Answer
answers_of clock job kinds logins procs =
    map (λ q. answer_of clock q logins procs) (questions_of job.report job.offset kinds job.until)

-- the text of a job's report over these entries, in the time of a clock
abbrev pub report_text : ClockRows → Job → List Kind → List Entry → List ProcEntry → List ℕ
report_text clock job kinds logins procs =
    form_text job.form job.report (local clock job.offset) job.until (answers_of clock job kinds logins procs)
