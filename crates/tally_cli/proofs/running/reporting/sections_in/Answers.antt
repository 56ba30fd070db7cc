use Rattle.std.proofs.Common.{◌≡◌, ◌∙◌, ap, arith, length, map, subst, sym}
use Rattle.std.proofs.lemmas.Result.{IfOk-weaker}
use Rattle.std.specs.List.{All}
use Rattle.std.specs.Prelude.{IfOk}
use Rattle.tally_answers.specs.Answers.{HasDays, IsAskable, NamesHostBelow, answer_of}
use Rattle.tally_book.specs.Contents.{Contents}
use Rattle.tally_print.specs.Section.{NamesHostBelow as HasHostBelow, answer_in}
use Rattle.tally_cli.proofs.Asked.{all_questions, question_count}
use Rattle.tally_cli.proofs.running.reporting.sections_in.Goals as goal

pub sections_for-requires-clause-askable : goal.sections_for-requires-clause-askable
sections_for-requires-clause-askable g c =
    let job = c.args.job.now in
    let offset = c.requires.runnable.offset in
    subst (All IsAskable) (sym (c.as_slice.ensures.value ∙ c.in_ok-questions.ensures))
    (all_questions IsAskable job.report job.offset job.until c.args.kinds.now (λ limit choice n l. tt) (λ limit choice n l. tt) (λ limit choice. tt) (λ by_day by_user choice. offset) (λ by reverse all. tt) (λ by reverse. tt))

pub sections_for-requires-clause-hosts : goal.sections_for-requires-clause-hosts
sections_for-requires-clause-hosts g c =
    let job = c.args.job.now in
    let callers = c.count_sessions.new.self.callers in
    let same = ap (λ (b : Contents). b.callers) c.in_ok-count_sessions.ensures.same in
    subst (All (NamesHostBelow callers)) (sym (c.as_slice.ensures.value ∙ c.in_ok-questions.ensures))
    (all_questions (NamesHostBelow callers) job.report job.offset job.until c.args.kinds.now (λ limit choice n l. omega (arith, l, same, c.requires.hosts)) (λ limit choice n l. omega (arith, l, same, c.requires.hosts)) (λ limit choice. tt) (λ by_day by_user choice. tt) (λ by reverse all. tt) (λ by reverse. tt))

pub sections_for-requires-clause-room : goal.sections_for-requires-clause-room
sections_for-requires-clause-room g c =
    let job = c.args.job.now in
    let same = c.in_ok-count_sessions.ensures.same in
    let calls = ap (λ (b : Contents). length b.calls) same in
    omega (arith, calls, ap length (c.as_slice.ensures.value ∙ c.in_ok-questions.ensures), question_count job.report job.offset job.until c.args.kinds.now, c.requires.calls, c.requires.hosts, c.requires.few)

pub returns-clause-value : goal.returns-clause-value
returns-clause-value g c =
    let asked = c.as_slice.ensures.value ∙ c.in_ok-questions.ensures in
    let value = subst (λ (b : Contents). IfOk c.sections_for.result (λ sections. map (answer_in b.logins) sections.items ≡ map (λ q. answer_of b.clock q b.logins b.procs) c.as_slice.result.now))
    c.in_ok-count_sessions.ensures.same c.sections_for.ensures.value in
    IfOk-weaker c.sections_for.result _ _ (λ sections value. value ∙ ap (map (λ q. answer_of c.args.book.now.clock q c.args.book.now.logins c.args.book.now.procs)) asked) value

pub returns-clause-hosts : goal.returns-clause-hosts
returns-clause-hosts g c =
    subst (λ (b : Contents). IfOk c.sections_for.result (λ sections. All (HasHostBelow b.callers) sections.items)) c.in_ok-count_sessions.ensures.same c.sections_for.ensures.hosts

pub returns-clause-days : goal.returns-clause-days
returns-clause-days g c =
    subst (λ (b : Contents). IfOk c.sections_for.result (λ sections. All (λ s. HasDays (answer_in b.logins s)) sections.items)) c.in_ok-count_sessions.ensures.same c.sections_for.ensures.days
