use Rattle.std.proofs.Common.{◌∙◌, ◌<◌, ◌++◌, ◌∷◌, [], ap, length, rules, sym}
use Rattle.tally_answers.specs.declared.question.Question.TheVariants as questions
use Rattle.tally_cli.proofs.Texts.{stays_more, stays_same}
use Rattle.tally_cli.proofs.running.sections.stays_asked.Goals as goal

pub loop-host-preserved-then-not-is_wanted : goal.loop-host-preserved-then-not-is_wanted
loop-host-preserved-then-not-is_wanted c =
    let near : c.loop-host.host < length c.args.kinds.now = search rules in
    c.loop-host.invariant
    ∙ sym (stays_same c.args.wanted (λ host. questions.Last host c.args.limit c.args.choice.now c.args.until) c.args.kinds.now c.loop-host.host _ near (sym c.is_wanted.ensures ∙ c.if-not-is_wanted.true))

pub loop-host-preserved : goal.loop-host-preserved
loop-host-preserved c =
    let near : c.loop-host.host < length c.args.kinds.now = search rules in
    c.in_ok-push.ensures.items
    ∙ ap (λ l. l ++ questions.Last c.loop-host.host c.args.limit c.args.choice.now c.args.until ∷ []) c.loop-host.invariant
    ∙ sym (stays_more c.args.wanted (λ host. questions.Last host c.args.limit c.args.choice.now c.args.until) c.args.kinds.now c.loop-host.host _ near (sym c.is_wanted.ensures ∙ c.if-not-is_wanted.false))
