-- How files are told apart: connect time by file, put together of its parts, and tables with paths.
use Rattle.std.proofs.Common.{◌≡◌, ◌∙◌, ◌++◌, ℕ, Bool, List, [], ◌∷◌, map, length, ap, refl, sym}
use Rattle.std.proofs.lemmas.List.{append_assoc}
use Rattle.std.specs.Prelude.{None, false, if◌then◌else◌, true}
use Rattle.std.specs.List.{flat_map, range_with_len}
use Rattle.tally_clock.specs.Rows.{ClockRows}
use Rattle.tally_answers.specs.Answers.{answer_of}
use Rattle.tally_answers.specs.declared.question.Answer.{Answer}
use Rattle.tally_answers.specs.declared.question.Question.{Question}
use Rattle.tally_answers.specs.declared.question.Question.TheVariants as questions
use Rattle.tally_line.specs.declared.job.Job.{Job}
use Rattle.tally_line.specs.declared.job.Report.TheVariants as report
use Rattle.tally_records.specs.declared.batch.Kind.{Kind}
use Rattle.tally_records.specs.declared.choice.LoginChoice.{LoginChoice}
use Rattle.tally_sessions.specs.Days.{local}
use Rattle.tally_sessions.specs.Hosts.{entries_of_host}
use Rattle.tally_sessions.specs.declared.entry.Entry.{Entry}
use Rattle.tally_usage.specs.declared.entry.ProcEntry.{ProcEntry}
use Rattle.tally_cli.specs.Apart.{Apart, apart_text, by_file_text, file_table, file_text, files_head, files_tail, has_paths, is_by_file, path_csv_of}
use Rattle.tally_cli.specs.Output.{answers_of, questions_of, report_text, table_of}
use Rattle.tally_cli.specs.inside.Parts.{part_alone, part_text}

-- the texts of parts are those of their files
pub parts_text : (clock held : ClockRows) (by_day by_user : Bool) (choice : LoginChoice) (apart : Apart) (job : Job) (kinds : List Kind) (logins : List Entry) (files : List ℕ)
    → held ≡ clock → job.report ≡ report.Connect by_day by_user choice
    → flat_map (part_text clock job None apart) (map (part_alone held by_day by_user choice job logins) files)
    ≡ flat_map (λ file. file_text clock job None apart file (answers_of clock job kinds (entries_of_host file logins) [])) files
parts_text clock held by_day by_user choice apart job kinds logins [] same is = refl
parts_text clock held by_day by_user choice apart job kinds logins (file ∷ files) same is =
    let entries : List Entry = entries_of_host file logins in
    let question : Question = questions.Connect by_day by_user job.offset choice job.until in
    let asked : answers_of clock job kinds entries [] ≡ answer_of clock question entries [] ∷ [] = λ i. map (λ q. answer_of clock q entries []) (questions_of (is i) job.offset kinds job.until) in
    let answered : answer_of held question entries [] ∷ [] ≡ answers_of clock job kinds entries [] = (λ i. answer_of (same i) question entries [] ∷ []) ∙ sym asked in
    let rest = parts_text clock held by_day by_user choice apart job kinds logins files same is in
    λ i. file_text clock job None apart file (answered i) ++ rest i

-- a report of connect time by file is the text by file
pub by_file_is : (clock : ClockRows) (apart : Apart) (job : Job) (kinds : List Kind) (logins : List Entry) (procs : List ProcEntry) (texts : List ℕ)
    → texts ≡ flat_map (λ file. file_text clock job None apart file (answers_of clock job kinds (entries_of_host file logins) [])) (range_with_len 0 (length kinds))
    → (files_head job.form apart.paths (file_table job.report None) ++ texts) ++ files_tail job.form (report_text clock job kinds logins procs) ≡ by_file_text clock apart job kinds logins procs
by_file_is clock apart job kinds logins procs texts same =
    let head : List ℕ = files_head job.form apart.paths (file_table job.report None) in
    let tail : List ℕ = files_tail job.form (report_text clock job kinds logins procs) in
    append_assoc head texts tail ∙ ap (λ t. head ++ (t ++ tail)) same

-- the answers of a book are those of a run in the time of its clock
pub answers_are : (clock held : ClockRows) (job : Job) (kinds : List Kind) (answers : List Answer) (logins : List Entry) (procs : List ProcEntry)
    → held ≡ clock → answers ≡ map (λ q. answer_of held q logins procs) (questions_of job.report job.offset kinds job.until) → answers ≡ answers_of clock job kinds logins procs
answers_are clock held job kinds answers logins procs same e = e ∙ (λ i. map (λ q. answer_of (same i) q logins procs) (questions_of job.report job.offset kinds job.until))

module _ (clock : ClockRows) (apart : Apart) (job : Job) (kinds : List Kind) (logins : List Entry) (procs : List ProcEntry) where
  abbrev by_file : List ℕ
  by_file = by_file_text clock apart job kinds logins procs

  abbrev with_paths : List ℕ
  with_paths = path_csv_of (table_of job.report) (local clock job.offset) apart.files (answers_of clock job kinds logins procs)

  abbrev plain : List ℕ
  plain = report_text clock job kinds logins procs

  pub by_file_printed : is_by_file apart job.report ≡ true → by_file ≡ apart_text clock apart job kinds logins procs
  by_file_printed e = sym (λ i. if e i then by_file else if has_paths apart job then with_paths else plain)

  pub paths_printed : is_by_file apart job.report ≡ false → has_paths apart job ≡ true → with_paths ≡ apart_text clock apart job kinds logins procs
  paths_printed e f = sym (λ i. if e i then by_file else if f i then with_paths else plain)

  pub plain_printed : is_by_file apart job.report ≡ false → has_paths apart job ≡ false → plain ≡ apart_text clock apart job kinds logins procs
  plain_printed e f = sym (λ i. if e i then by_file else if f i then with_paths else plain)
