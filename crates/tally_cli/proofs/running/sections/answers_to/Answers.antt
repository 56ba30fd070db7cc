use Rattle.std.proofs.Common.{◌≡◌, ◌∙◌, ◌<◌, ◌++◌, ◌∷◌, [], ap, arith, length, length-append, map, rules, sym, take}
use Rattle.std.proofs.Math.Seq.{take-length}
use Rattle.std.proofs.lemmas.List.Elements.{All-push, All-same}
use Rattle.tally_answers.specs.Answers.{HasDays, answer_of}
use Rattle.tally_book.specs.Contents.{Contents}
use Rattle.tally_cli.proofs.Texts.{answer_same, map_next}
use Rattle.tally_cli.proofs.running.sections.answers_to.Goals as goal

pub loop-index-preserved : goal.loop-index-preserved
loop-index-preserved c =
    let before = c.loop-index.invariant in
    let i = c.loop-index.index in
    let near : c.loop-index.index < length c.args.questions.now = search rules in
    let stored = c.in_ok-answer.ensures.stored in
    let clock = c.args.book.now.clock in
    let logins = c.args.book.now.logins in
    let procs = c.args.book.now.procs in
    let qs = c.args.questions.now in
    let items = c.push_reserved.ensures.items in
    record {
      callers = ap (λ (b : Contents). b.callers) stored ∙ before.callers;
      clock = ap (λ (b : Contents). b.clock) stored ∙ before.clock;
      logins = ap (λ (b : Contents). b.logins) stored ∙ before.logins;
      procs = ap (λ (b : Contents). b.procs) stored ∙ before.procs;
      calls = ap (λ (b : Contents). length b.calls) stored ∙ length-append c.loop-index.book.calls (_ ∷ []) ∙ omega (arith, before.calls);
      room = search rules;
      value = items
          ∙ ap (λ l. l ++ c.in_ok-answer.answer ∷ []) before.value
          ∙ ap (λ a. map (λ q. answer_of clock q logins procs) (take i qs) ++ a ∷ []) (c.in_ok-answer.ensures.value ∙ answer_same _ _ _ _ _ _ _ before.clock before.logins before.procs)
          ∙ sym (map_next (λ q. answer_of clock q logins procs) qs i _ near);
      days = All-same HasDays c.push_reserved.new.self.items (c.loop-index.answers.items ++ c.in_ok-answer.answer ∷ []) items
          (All-push HasDays c.loop-index.answers.items c.in_ok-answer.answer before.days c.in_ok-answer.ensures.days);
    }

pub returns-clause-value : goal.returns-clause-value
returns-clause-value c =
    let all : c.loop-index.index ≡ length c.args.questions.now = search rules in
    c.loop-index.invariant.value
    ∙ ap (λ n. map (λ q. answer_of c.args.book.now.clock q c.args.book.now.logins c.args.book.now.procs) (take n c.args.questions.now)) all
    ∙ ap (map (λ q. answer_of c.args.book.now.clock q c.args.book.now.logins c.args.book.now.procs)) (take-length c.args.questions.now)
