-- The questions of a report can be asked of the book.
use Rattle.std.proofs.Common.{◌≡◌, ℕ, ◌+◌, ◌<◌, ◌≤◌, ℤ, Bool, false, List, [], ◌∷◌, Option, Some, None, length, map, filter, ap, ◌∙◌, subst, sym, arith, length-append}
use Rattle.std.proofs.lemmas.List.{length-map}
use Rattle.std.proofs.lemmas.List.Elements.{All-append, All-cons, All-filter, All-map, All-nil}
use Rattle.std.proofs.lemmas.List.FromFn.{get_or-enumerate_from, get_or-range_with_len, length-enumerate_from, length-map-range_with_len, length-range_with_len}
use Rattle.std.proofs.lemmas.List.Sums.{count_by-le-length, length-filter}
use Rattle.std.proofs.lemmas.Simd.{map-map}
use Rattle.std.specs.List.{All, enumerate_from, range_with_len}
use Rattle.tally_clock.specs.Rows.{ClockRows}
use Rattle.tally_answers.specs.declared.question.Answer.{Answer}
use Rattle.tally_answers.specs.declared.question.Question.{Question}
use Rattle.tally_answers.specs.declared.question.Question.TheVariants as questions
use Rattle.tally_answers.specs.Answers.{answer_of}
use Rattle.tally_records.specs.Choice.{every_login}
use Rattle.tally_records.specs.declared.choice.LoginChoice.{LoginChoice}
use Rattle.tally_records.specs.declared.batch.Kind.{Kind}
use Rattle.tally_records.specs.declared.batch.Kind.TheVariants.{Login}
use Rattle.tally_sessions.specs.declared.entry.Entry.{Entry}
use Rattle.tally_sessions.specs.Days.{local}
use Rattle.tally_usage.specs.declared.entry.ProcEntry.{ProcEntry}
use Rattle.tally_usage.specs.declared.order.Order.TheVariants as order
use Rattle.tally_line.specs.declared.job.Job.{Job}
use Rattle.tally_line.specs.declared.job.Report.{Report}
use Rattle.tally_line.specs.declared.job.Report.TheVariants as report
use Rattle.tally_print.specs.AttemptSections.{attempt_answers}
use Rattle.tally_cli.specs.Output.{attempts_asked, form_text, is_wanted, questions_of, report_text, stays_asked}
use Rattle.tally_cli.proofs.Texts.{asked_by}

-- what holds of each file's question holds of those for the wanted files
stays_all : (P : Question → Type 0) (wanted : Option Kind) (ask : ℕ → Question) (kinds : List Kind) → ((n : ℕ) → n < length kinds → P (ask n)) → All P (asked_by wanted ask kinds)
stays_all P wanted ask kinds h =
    let Fits : ℕ × Kind → Type 0 = λ numbered. P (ask numbered.0) in
    let each : All Fits (enumerate_from 0 kinds) = λ k d l.
    let near : k < length kinds = omega (arith, l, length-enumerate_from 0 kinds) in
    let same : 0 + k ≡ k = omega arith in
    subst Fits (sym (get_or-enumerate_from 0 kinds k d near)) (subst (λ n. P (ask n)) (sym same) (h k near)) in
    All-map P (λ (numbered : ℕ × Kind). ask numbered.0) _ (All-filter (λ (numbered : ℕ × Kind). is_wanted wanted numbered.1) Fits (enumerate_from 0 kinds) each)

-- what holds of each file's question holds of those for all files
attempts_all : (P : Question → Type 0) (ask : ℕ → Question) (count : ℕ) → ((n : ℕ) → n < count → P (ask n)) → All P (map ask (range_with_len 0 count))
attempts_all P ask count h = All-map P ask (range_with_len 0 count) (λ k d l.
    let near : k < count = omega (arith, l, length-range_with_len 0 count) in
    let same : 0 + k ≡ k = omega arith in
    subst (λ n. P (ask n)) (sym (get_or-range_with_len 0 count k d near)) (subst (λ n. P (ask n)) (sym same) (h k near)))

-- what holds of the stays and failed logins of each file and of the questions without a host holds of all
pub all_questions : (P : Question → Type 0) (r : Report) (offset : ℤ) (until : Option ℤ) (kinds : List Kind) → ((limit : Option ℕ) (choice : LoginChoice) (n : ℕ) → n < length kinds → P (questions.Last n limit choice until))
    → ((limit : Option ℕ) (choice : LoginChoice) (n : ℕ) → n < length kinds → P (questions.Attempts n limit choice)) → ((limit : Option ℕ) (choice : LoginChoice) → P (questions.AttemptSums limit choice))
    → ((by_day by_user : Bool) (choice : LoginChoice) → P (questions.Connect by_day by_user offset choice until)) → ((by : _) (reverse all : Bool) → P (questions.Commands by reverse all)) → ((by : _) (reverse : Bool) → P (questions.Users by reverse))
    → All P (questions_of r offset kinds until)
all_questions P (report.Last limit choice within) offset until kinds last attempts sums connect commands users = stays_all P None (λ n. questions.Last n limit choice until) kinds (last limit choice)
all_questions P (report.Attempts limit choice) offset until kinds last attempts sums connect commands users = attempts_all P (λ n. questions.Attempts n limit choice) (length kinds) (attempts limit choice)
all_questions P (report.AttemptSums limit choice) offset until kinds last attempts sums connect commands users = All-cons P _ [] (sums limit choice) (All-nil P)
all_questions P (report.Connect by_day by_user choice) offset until kinds last attempts sums connect commands users = All-cons P _ [] (connect by_day by_user choice) (All-nil P)
all_questions P (report.Commands by reverse all) offset until kinds last attempts sums connect commands users = All-cons P _ [] (commands by reverse all) (All-nil P)
all_questions P (report.Users by reverse) offset until kinds last attempts sums connect commands users = All-cons P _ [] (users by reverse) (All-nil P)
all_questions P report.All offset until kinds last attempts sums connect commands users =
    All-append P (stays_asked (Some Login) None every_login kinds until) (questions.Connect false false offset every_login until ∷ questions.Commands order.Cpu false false ∷ [])
    (stays_all P (Some Login) (λ n. questions.Last n None every_login until) kinds (last None every_login))
    (All-cons P (questions.Connect false false offset every_login until) (questions.Commands order.Cpu false false ∷ []) (connect false false every_login) (All-cons P (questions.Commands order.Cpu false false) [] (commands order.Cpu false false) (All-nil P)))

stays_count : (wanted : Option Kind) (ask : ℕ → Question) (kinds : List Kind) → length (asked_by wanted ask kinds) ≤ length kinds
stays_count wanted ask kinds =
    let numbered : List (ℕ × Kind) = enumerate_from 0 kinds in
    let fits : ℕ × Kind → Bool = λ one. is_wanted wanted one.1 in
    omega (arith, length-map (filter fits numbered) (λ (one : ℕ × Kind). ask one.0), length-filter fits numbered, count_by-le-length fits numbered, length-enumerate_from 0 kinds)

-- there are few questions
pub question_count : (r : Report) (offset : ℤ) (until : Option ℤ) (kinds : List Kind) → length (questions_of r offset kinds until) ≤ length kinds + 2
question_count (report.Last limit choice within) offset until kinds = omega (arith, stays_count None (λ n. questions.Last n limit choice until) kinds)
question_count (report.Attempts limit choice) offset until kinds = omega (arith, length-map-range_with_len (λ n. questions.Attempts n limit choice) 0 (length kinds))
question_count (report.AttemptSums limit choice) offset until kinds = omega arith
question_count (report.Connect by_day by_user choice) offset until kinds = omega arith
question_count (report.Commands by reverse all) offset until kinds = omega arith
question_count (report.Users by reverse) offset until kinds = omega arith
question_count report.All offset until kinds =
    omega (arith, stays_count (Some Login) (λ n. questions.Last n None every_login until) kinds, length-append (stays_asked (Some Login) None every_login kinds until) (questions.Connect false false offset every_login until ∷ questions.Commands order.Cpu false false ∷ []))

-- the text of the answers is that of the report
pub report_is : (clock held : ClockRows) (job : Job) (kinds : List Kind) (asked : List Question) (answers : List Answer) (logins : List Entry) (procs : List ProcEntry)
    → held ≡ clock → asked ≡ questions_of job.report job.offset kinds job.until → answers ≡ map (λ q. answer_of held q logins procs) asked
    → form_text job.form job.report (local clock job.offset) job.until answers ≡ report_text clock job kinds logins procs
report_is clock held job kinds asked answers logins procs same e f =
    ap (form_text job.form job.report (local clock job.offset) job.until)
    (f ∙ ap (map (λ q. answer_of held q logins procs)) e ∙ (λ i. map (λ q. answer_of (same i) q logins procs) (questions_of job.report job.offset kinds job.until)))

-- what is printed of the failed logins of so many hosts are the answers to the questions for them
pub attempts_answered : (clock : ClockRows) (limit : Option ℕ) (choice : LoginChoice) (kinds : List Kind) (logins : List Entry) (procs : List ProcEntry)
    → attempt_answers (length kinds) limit choice logins ≡ map (λ q. answer_of clock q logins procs) (attempts_asked limit choice kinds)
unfolding answer_of
attempts_answered clock limit choice kinds logins procs = sym (map-map (λ q. answer_of clock q logins procs) (λ host. questions.Attempts host limit choice) (range_with_len 0 (length kinds)))
