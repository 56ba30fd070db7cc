use Rattle.std.proofs.Common.{◌∙◌, ◌+◌, ◌≡◌, ◌++◌, ◌∷◌, [], ap, arith, sym}
use Rattle.std.proofs.lemmas.List.FromFn.{map-range_with_len_more}
use Rattle.tally_answers.specs.declared.question.Question.TheVariants as questions
use Rattle.tally_cli.proofs.running.sections.attempts_asked.Goals as goal

pub loop-host-preserved : goal.loop-host-preserved
loop-host-preserved c =
    let host = c.loop-host.host in
    let at : 0 + host ≡ host = omega arith in
    c.in_ok-push.ensures.items
    ∙ ap (λ l. l ++ questions.Attempts host c.args.limit c.args.choice.now ∷ []) c.loop-host.invariant
    ∙ sym (map-range_with_len_more (λ host. questions.Attempts host c.args.limit c.args.choice.now) 0 host host at)
