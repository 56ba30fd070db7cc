use Rattle.std.proofs.Common.{◌≡◌, ◌∙◌, [], ◌∷◌, ap, rules, subst}
use Rattle.std.specs.Prelude.{IfOk}
use Rattle.tally_print.specs.Output.{Prints}
use Rattle.tally_sessions.specs.Days.{local}
use Rattle.tally_cli.specs.Output.{form_text}
use Rattle.tally_cli.proofs.Reported.{prints_as, prints_from}
use Rattle.tally_cli.proofs.running.totals.print_answered.Goals as goal

pub returns-in_err-print_answers-in-Ok-clause-writes : goal.returns-in_err-print_answers-in-Ok-clause-writes
returns-in_err-print_answers-in-Ok-clause-writes g c text same =
    let job = c.args.job.now in
    let is = ap (form_text job.form job.report (local c.args.clock.now job.offset) job.until) c.from_ref.ensures.value
    ∙ subst (λ r. IfOk r (λ a. form_text job.form job.report (local c.args.clock.now job.offset) job.until (a ∷ []) ≡ text)) c.in-Ok.is same in
    prints_from c.in_err-print_answers-in-Ok.field-0.0 _ (search rules) (subst (Prints _ _ _ _) is c.in_err-print_answers-in-Ok.ensures.writes)

pub returns-in_ok-print_answers-in-Ok-clause-writes : goal.returns-in_ok-print_answers-in-Ok-clause-writes
returns-in_ok-print_answers-in-Ok-clause-writes g c text same =
    let job = c.args.job.now in
    let is = ap (form_text job.form job.report (local c.args.clock.now job.offset) job.until) c.from_ref.ensures.value
    ∙ subst (λ r. IfOk r (λ a. form_text job.form job.report (local c.args.clock.now job.offset) job.until (a ∷ []) ≡ text)) c.in-Ok.is same in
    prints_as is c.in_ok-print_answers-in-Ok.ensures.writes
