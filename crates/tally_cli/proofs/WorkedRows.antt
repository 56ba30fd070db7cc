-- Worked examples, computed by the definitions.
use Rattle.std.proofs.Common.{◌≡◌, ⊎_elim, List, ℕ, [], ◌∷◌, ◌++◌, true, false, Ok, Err, Some, None, arith, inl, inr, map, refl}
use Rattle.std.specs.Prelude.{pos}
use Rattle.tally_answers.specs.declared.question.Question.{Question}
use Rattle.tally_answers.specs.declared.question.Question.TheVariants as questions
use Rattle.tally_book.specs.declared.fault.AskFault.TheVariants as ask
use Rattle.tally_desk.specs.declared.fault.FeedFault.TheVariants as feed
use Rattle.tally_records.specs.Choice.{every_login}
use Rattle.tally_records.specs.declared.choice.LoginChoice.{LoginChoice}
use Rattle.tally_records.specs.declared.login.LoginRecord.{LoginRecord}
use Rattle.tally_records.specs.declared.period.Period.{Period}
use Rattle.tally_records.specs.declared.process.ProcRecord.{ProcRecord}
use Rattle.tally_records.specs.Records.{Logins, Procs, Records}
use Rattle.tally_sessions.specs.declared.entry.Entry.{Entry}
use Rattle.tally_usage.specs.declared.entry.ProcEntry.{ProcEntry}
use Rattle.tally_records.specs.declared.batch.Kind.TheVariants.{FailedLogin, Login, Proc}
use Rattle.tally_usage.specs.declared.order.Order.TheVariants as order
use Rattle.tally_print.specs.declared.output.PrintFault.TheVariants as print
use Rattle.tally_print.specs.declared.report_table.Table.TheVariants as tables
use Rattle.tally_cli.specs.Output.{is_wanted, login_entries, proc_entries, questions_of, table_of}
use Rattle.tally_cli.specs.Runs.{IsWrongNumber, callers_fault, failed_writes, fault_from}
use Rattle.tally_cli.specs.Reading.{choice_of, questions_beside}
use Rattle.tally_cli.specs.inside.Tasks.{asker_questions}
use Rattle.tally_cli.specs.declared.fault.RunFault.TheVariants.{Asker, Callers, File, Memory, Write}
use Rattle.tally_line.specs.declared.job.Form.TheVariants.{Text}
use Rattle.tally_line.specs.declared.job.Report.TheVariants as report

-- what is chosen: times from 5 up to 9
abbrev part : Period
part = record { from = Some (pos 5); to = Some (pos 9) }

abbrev logins : LoginChoice
logins = record every_login { period = part }

-- `all` asks for the stays of each login file under its own number, then for connect time and for commands by cpu
all_asked : questions_of report.All (pos 60) (Login ∷ Proc ∷ Login ∷ []) (Some (pos 7000)) ≡ questions.Last 0 None every_login (Some (pos 7000)) ∷ questions.Last 2 None every_login (Some (pos 7000)) ∷ questions.Connect false false (pos 60) every_login (Some (pos 7000)) ∷ questions.Commands order.Cpu false false ∷ []
all_asked = refl

-- `last` asks for each file what is chosen, up to its limit
last_asked : questions_of (report.Last (Some 3) logins true) (pos 0) (Login ∷ Login ∷ []) None ≡ questions.Last 0 (Some 3) logins None ∷ questions.Last 1 (Some 3) logins None ∷ []
last_asked = refl

-- `lastb` asks for each file what is chosen, up to its limit; its sums are one question over all files
attempts_asked : questions_of (report.Attempts (Some 3) logins) (pos 60) (FailedLogin ∷ FailedLogin ∷ []) None ++ questions_of (report.AttemptSums None logins) (pos 60) (FailedLogin ∷ FailedLogin ∷ []) None
    ≡ questions.Attempts 0 (Some 3) logins ∷ questions.Attempts 1 (Some 3) logins ∷ questions.AttemptSums None logins ∷ []
attempts_asked = refl

-- a number of callers is named as far as 32 bits hold it
numbers : map callers_fault (0 ∷ 129 ∷ 5000000000 ∷ []) ≡ Callers 0 ∷ Callers 129 ∷ Callers 4294967295 ∷ []
numbers = refl

abbrev once : List Question
once = questions.Last 0 (Some 10) logins (Some (pos 7000)) ∷ questions.Connect false false (pos 0) logins (Some (pos 7000)) ∷ questions.Commands order.Cpu false false ∷ questions.Users order.Cpu false ∷ []

-- an asker asks four questions four times: the ten latest chosen stays of the first file, connect time, commands and users by cpu
asked : asker_questions (record { choice = logins; until = Some (pos 7000) }) ≡ once ++ once ++ once ++ once
asked = refl

-- beside a job it asks over the sessions of the job's report, up to the job's moment
beside : questions_beside (record { report = report.Connect true false logins; form = Text; millions = 1; feeders = 4; askers = 2; offset = pos 60; until = Some (pos 7000) }) ≡ once ++ once ++ once ++ once
beside = refl

-- what it asks is over the sessions that the report is over
asked_over : map choice_of (report.Last None logins false ∷ report.Connect true false logins ∷ report.Commands order.Cpu false false ∷ report.Users order.Cpu false ∷ report.All ∷ report.Attempts None logins ∷ report.AttemptSums None logins ∷ []) ≡ logins ∷ logins ∷ every_login ∷ every_login ∷ every_login ∷ every_login ∷ every_login ∷ []
asked_over = refl

-- connect time, commands and users are one question each over all files, with each option in its place
one_question : questions_of (report.Connect true false logins) (pos 60) (Login ∷ Login ∷ []) (Some (pos 7000))
    ++ questions_of (report.Connect false true every_login) (pos 0) (Login ∷ []) None
    ++ questions_of (report.Commands order.Calls true false) (pos 0) (Proc ∷ []) None
    ++ questions_of (report.Commands order.Cpu false true) (pos 0) (Proc ∷ Proc ∷ []) None
    ++ questions_of (report.Users order.Calls false) (pos 0) (Proc ∷ []) None
    ++ questions_of (report.Users order.Cpu true) (pos 0) [] None
    ≡ questions.Connect true false (pos 60) logins (Some (pos 7000)) ∷ questions.Connect false true (pos 0) every_login None
    ∷ questions.Commands order.Calls true false ∷ questions.Commands order.Cpu false true
    ∷ questions.Users order.Calls false ∷ questions.Users order.Cpu true ∷ []
one_question = refl

-- which files a report is of: those of the wanted kind
wanted : is_wanted None Login ∷ is_wanted None Proc ∷ is_wanted (Some Login) Login ∷ is_wanted (Some Login) Proc ∷ is_wanted (Some Proc) Login ∷ is_wanted (Some Proc) Proc ∷ [] ≡ true ∷ true ∷ true ∷ false ∷ false ∷ true ∷ []
wanted = refl

failed_wanted : is_wanted None FailedLogin ∷ is_wanted (Some FailedLogin) FailedLogin ∷ is_wanted (Some FailedLogin) Login ∷ is_wanted (Some Login) FailedLogin ∷ is_wanted (Some Proc) FailedLogin ∷ is_wanted (Some FailedLogin) Proc ∷ [] ≡ true ∷ true ∷ false ∷ false ∷ false ∷ false ∷ []
failed_wanted = refl

-- each report but that of all is a table, and one of stays may have the seconds in its period
tables_of : map table_of (report.Last (Some 3) logins false ∷ report.Last None logins true ∷ report.Connect true false logins ∷ report.Commands order.Calls true true ∷ report.Users order.Cpu false ∷ report.All ∷ []) ≡ Some (tables.Stays None) ∷ Some (tables.Stays (Some part)) ∷ Some (tables.Connect true false) ∷ Some tables.Commands ∷ Some tables.Users ∷ None ∷ []
tables_of = refl

attempt_tables : map table_of (report.Attempts (Some 3) logins ∷ report.AttemptSums None logins ∷ []) ≡ Some tables.Attempts ∷ Some tables.AttemptSums ∷ []
attempt_tables = refl

-- the fault of a printer is the run's own, and a failed write alone is counted
print_faults : map fault_from (print.Memory ∷ print.Write ∷ []) ≡ Memory ∷ Write ∷ []
print_faults = refl

failures : map failed_writes (Ok tt ∷ Err Write ∷ Err Memory ∷ Err (Callers 0) ∷ Err (File 1 feed.Read) ∷ Err (Asker 2 ask.Memory) ∷ []) ≡ 0 ∷ 1 ∷ 0 ∷ 0 ∷ 0 ∷ 0 ∷ []
failures = refl

-- the record of a second
abbrev login : ℕ → LoginRecord
login second = record { kind = 7; line = []; user = []; remote = []; time = pos second }

abbrev proc : ℕ → ProcRecord
proc second = record { flag = 0; uid = 7; begin = second; user_ticks = 0; system_ticks = 0; real_ticks = 0; mem = 0; io = 0; comm = [] }

-- login records of the first file and of the third, with process records of the second between them
abbrev files : List Records
files = Logins (login 5 ∷ login 3 ∷ []) ∷ Procs (proc 8 ∷ proc 2 ∷ []) ∷ Logins (login 4 ∷ []) ∷ []

abbrev entry : ℕ → ℕ → Entry
entry host second = record { host = host; item = login second }

abbrev proc_entry : ℕ → ℕ → ProcEntry
proc_entry host second = record { host = host; item = proc second }

-- each record is stored under the number of its file, in the order of the files
logins_stored : login_entries files ≡ entry 0 5 ∷ entry 0 3 ∷ entry 2 4 ∷ []
logins_stored = refl

procs_stored : proc_entries files ≡ proc_entry 1 8 ∷ proc_entry 1 2 ∷ []
procs_stored = refl

-- a run has one caller at least, and 128 at most
no_caller : IsWrongNumber 0
no_caller = inl refl

too_many_callers : IsWrongNumber 129
too_many_callers = inr (omega arith)

one_caller : ¬ IsWrongNumber 1
one_caller wrong = ⊎_elim (λ none. omega (arith, none)) (λ many. omega (arith, many)) wrong

most_callers : ¬ IsWrongNumber 128
most_callers wrong = ⊎_elim (λ none. omega (arith, none)) (λ many. omega (arith, many)) wrong
