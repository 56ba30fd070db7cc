use Rattle.std.proofs.Common.{◌≡◌, ◌∙◌, ◌<◌, ◌++◌, ◌∷◌, [], ap, arith, length, map, rules, subst, sym, take}
use Rattle.std.proofs.Math.Seq.{take-length}
use Rattle.std.proofs.lemmas.List.{map-append}
use Rattle.std.proofs.lemmas.List.Elements.{All-push, All-same}
use Rattle.tally_answers.specs.Answers.{HasDays, answer_of}
use Rattle.tally_print.specs.Section.{NamesHostBelow, answer_in}
use Rattle.tally_print.specs.declared.section.Section.{Section}
use Rattle.tally_cli.proofs.Texts.{answer_same, map_next}
use Rattle.tally_cli.proofs.running.sections.sections_for.Goals as goal

pub loop-index-preserved : goal.loop-index-preserved
loop-index-preserved c =
    let before = c.loop-index.invariant in
    let kept = c.in_ok-section.ensures.kept in
    let i = c.loop-index.index in
    let near : c.loop-index.index < length c.args.questions.now = search rules in
    let clock = c.args.book.now.clock in
    let logins = c.args.book.now.logins in
    let procs = c.args.book.now.procs in
    let qs = c.args.questions.now in
    let one = c.in_ok-section.section in
    let so_far = c.loop-index.sections.items in
    let items = c.push_reserved.ensures.items in
    let below = NamesHostBelow c.args.book.now.callers in
    let has = λ (s : Section). HasDays (answer_in logins s) in
    record {
      callers = kept.callers ∙ before.callers;
      clock = kept.clock ∙ before.clock;
      logins = kept.logins ∙ before.logins;
      procs = kept.procs ∙ before.procs;
      calls = omega (arith, kept.calls, before.calls);
      room = search rules;
      value = ap (map (answer_in logins)) items
          ∙ map-append (answer_in logins) so_far (one ∷ [])
          ∙ ap (λ l. l ++ answer_in logins one ∷ []) before.value
          ∙ ap (λ a. map (λ q. answer_of clock q logins procs) (take i qs) ++ a ∷ [])
          (ap (λ es. answer_in es one) (sym before.logins) ∙ c.in_ok-section.ensures.value ∙ answer_same _ _ _ _ _ _ _ before.clock before.logins before.procs)
          ∙ sym (map_next (λ q. answer_of clock q logins procs) qs i _ near);
      hosts = All-same below c.push_reserved.new.self.items (so_far ++ one ∷ []) items
          (All-push below so_far one before.hosts (subst (λ n. NamesHostBelow n one) before.callers c.in_ok-section.ensures.host));
      days = All-same has c.push_reserved.new.self.items (so_far ++ one ∷ []) items
          (All-push has so_far one before.days (subst (λ es. HasDays (answer_in es one)) before.logins c.in_ok-section.ensures.days));
    }

pub returns-clause-value : goal.returns-clause-value
returns-clause-value c =
    let all : c.loop-index.index ≡ length c.args.questions.now = search rules in
    c.loop-index.invariant.value
    ∙ ap (λ n. map (λ q. answer_of c.args.book.now.clock q c.args.book.now.logins c.args.book.now.procs) (take n c.args.questions.now)) all
    ∙ ap (map (λ q. answer_of c.args.book.now.clock q c.args.book.now.logins c.args.book.now.procs)) (take-length c.args.questions.now)
