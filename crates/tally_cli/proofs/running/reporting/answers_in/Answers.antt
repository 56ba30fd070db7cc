use Rattle.std.proofs.Common.{◌∙◌, ap, arith, length, map, subst, sym}
use Rattle.std.proofs.lemmas.Result.{IfOk-weaker}
use Rattle.std.specs.List.{All}
use Rattle.tally_answers.specs.Answers.{IsAskable, NamesHostBelow, answer_of}
use Rattle.tally_book.specs.Contents.{Contents}
use Rattle.tally_cli.proofs.Asked.{all_questions, question_count}
use Rattle.tally_cli.proofs.running.reporting.answers_in.Goals as goal

pub answers_to-requires-clause-askable : goal.answers_to-requires-clause-askable
answers_to-requires-clause-askable g c =
    let job = c.args.job.now in
    let offset = c.requires.runnable.offset in
    subst (All IsAskable) (sym (c.as_slice.ensures.value ∙ c.in_ok-questions.ensures))
    (all_questions IsAskable job.report job.offset job.until c.args.kinds.now (λ limit choice n l. tt) (λ limit choice n l. tt) (λ limit choice. tt) (λ by_day by_user choice. offset) (λ by reverse all. tt) (λ by reverse. tt))

pub answers_to-requires-clause-hosts : goal.answers_to-requires-clause-hosts
answers_to-requires-clause-hosts g c =
    let job = c.args.job.now in
    let callers = c.count_for.new.book.callers in
    let same = ap (λ (b : Contents). b.callers) c.in_ok-count_for.ensures.same in
    subst (All (NamesHostBelow callers)) (sym (c.as_slice.ensures.value ∙ c.in_ok-questions.ensures))
    (all_questions (NamesHostBelow callers) job.report job.offset job.until c.args.kinds.now (λ limit choice n l. omega (arith, l, same, c.requires.hosts)) (λ limit choice n l. omega (arith, l, same, c.requires.hosts)) (λ limit choice. tt) (λ by_day by_user choice. tt) (λ by reverse all. tt) (λ by reverse. tt))

pub answers_to-requires-clause-room : goal.answers_to-requires-clause-room
answers_to-requires-clause-room g c =
    let job = c.args.job.now in
    let same = c.in_ok-count_for.ensures.same in
    let calls = ap (λ (b : Contents). length b.calls) same in
    omega (arith, calls, ap length (c.as_slice.ensures.value ∙ c.in_ok-questions.ensures), question_count job.report job.offset job.until c.args.kinds.now, c.requires.calls, c.requires.hosts, c.requires.few)

pub returns-clause-value : goal.returns-clause-value
returns-clause-value g c =
    let asked = c.as_slice.ensures.value ∙ c.in_ok-questions.ensures in
    let same = c.in_ok-count_for.ensures.same in
    IfOk-weaker c.answers_to.result _ _ (λ answers value. value
    ∙ ap (λ (b : Contents). map (λ q. answer_of b.clock q b.logins b.procs) c.as_slice.result.now) same
    ∙ ap (map (λ q. answer_of c.args.book.now.clock q c.args.book.now.logins c.args.book.now.procs)) asked) c.answers_to.ensures.value
