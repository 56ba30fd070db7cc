use Rattle.std.proofs.Common.{◌≡◌, [], ◌∷◌, ℤ, Bool, FitsSigned, List, ap, refl, rules, subst, sym, to_z-of_z, w32}
use Rattle.std.proofs.lemmas.Result.{IfOk-weaker}
use Rattle.tally_answers.specs.Answers.{IsAnswerOfCounts, answer_of}
use Rattle.tally_answers.specs.declared.question.Answer.{Answer}
use Rattle.tally_answers.specs.declared.question.Question.TheVariants as questions
use Rattle.tally_clock.specs.Rows.{ClockRows}
use Rattle.tally_line.specs.declared.job.Job.{Job}
use Rattle.tally_line.specs.declared.job.Report.TheVariants as report
use Rattle.tally_records.specs.declared.batch.Kind.{Kind}
use Rattle.tally_records.specs.declared.choice.LoginChoice.{LoginChoice}
use Rattle.tally_sessions.specs.Days.{local}
use Rattle.tally_sessions.specs.declared.entry.Entry.{Entry}
use Rattle.tally_usage.specs.declared.entry.ProcEntry.{ProcEntry}
use Rattle.tally_cli.specs.Output.{form_text, questions_of, report_text}
use Rattle.tally_cli.specs.inside.LoginCounts.{IsOfAllSessions}
use Rattle.tally_cli.proofs.Asked.{report_is}
use Rattle.tally_cli.proofs.running.totals.print_counts.Goals as goal

-- the text of the answer to the only question of a report on connect time
text_of_answer : (clock : ClockRows) (job : Job) (kinds : List Kind) (logins : List Entry) (procs : List ProcEntry) (by_day by_user : Bool) (choice : LoginChoice) (a : Answer)
    → job.report ≡ report.Connect by_day by_user choice → a ≡ answer_of clock (questions.Connect by_day by_user job.offset choice job.until) logins procs
    → form_text job.form job.report (local clock job.offset) job.until (a ∷ []) ≡ report_text clock job kinds logins procs
text_of_answer clock job kinds logins procs by_day by_user choice a is value =
    report_is clock clock job kinds (questions.Connect by_day by_user job.offset choice job.until ∷ []) (a ∷ []) logins procs refl
    (subst (λ r. (questions.Connect by_day by_user job.offset choice job.until ∷ []) ≡ questions_of r job.offset kinds job.until) (sym is) refl)
    (ap (λ x. x ∷ []) value)

pub returns-clause-writes : goal.returns-clause-writes
returns-clause-writes g c = λ kinds logins procs counts.
    let job = c.args.job.now in
    let every = subst IsOfAllSessions c.in-Connect.is c.requires.report in
    let minutes : FitsSigned w32 job.offset = search rules in
    c.print_answered.ensures.writes _ (IfOk-weaker c.connect_of_counts-answer.result _ _ (λ a value.
    text_of_answer c.args.clock.now job kinds logins procs c.in-Connect.by_day c.in-Connect.by_user c.in-Connect.choice a c.in-Connect.is
    (subst (λ (x : ℤ). IsAnswerOfCounts c.args.clock.now x c.args.counts.now c.in-Connect.by_day c.in-Connect.by_user job.until a) (to_z-of_z minutes) value c.in-Connect.choice logins procs every counts)) c.connect_of_counts-answer.ensures.value)
