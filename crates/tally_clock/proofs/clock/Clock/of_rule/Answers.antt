use Rattle.std.proofs.lemmas.Result.{err_from_is_err_and}
use Rattle.tally_clock.proofs.FaultLemmas.{rule_refused}
use Rattle.tally_clock.proofs.clock.Clock.of_rule.Goals as goal

pub returns-in_err-clock_of-in-Ok-clause-err : goal.returns-in_err-clock_of-in-Ok-clause-err
returns-in_err-clock_of-in-Ok-clause-err c =
    let p = err_from_is_err_and c.from_residual.result c.from_residual.ensures.1 in
    rw (p.1, p.2) (rule_refused c.args.text.now _ c.in-Ok.rule c.in-Ok.ensures.value c.in_err-clock_of-in-Ok.ensures.err)
