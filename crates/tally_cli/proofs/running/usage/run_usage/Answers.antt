use Rattle.std.proofs.Common.{refl, rules, subst}
use Rattle.tally_cli.proofs.Reported.{at_fault, faults_are, on_ok_always, printed_whole, whole_prefix}
use Rattle.tally_cli.specs.inside.Parts.{AreAnsweredWanted}
use Rattle.tally_cli.proofs.Summed.{few_told}
use Rattle.tally_cli.proofs.UsageRuns.{allowed_of, failed_counting, failed_showing, named_of, read_of}
use Rattle.tally_cli.proofs.running.usage.run_usage.Goals as goal

pub returns-in_err-refuse_callers-clause-failed : goal.returns-in_err-refuse_callers-clause-failed
returns-in_err-refuse_callers-clause-failed g c =
    at_fault _ c.from_residual.result c.in_err-refuse_callers.field-0.0 (search rules) (failed_counting (search rules) (search rules) (search rules) (λ inputs tell. search rules))

pub returns-in_err-joined-clause-failed : goal.returns-in_err-joined-clause-failed
returns-in_err-joined-clause-failed g c =
    let refused = c.in_err-joined.ensures.refused in
    at_fault _ c.from_residual-in_err-joined.result c.in_err-joined.field-0.0 (search rules) (failed_counting
    (allowed_of g.I.Input.can_fail c.args.sources.items _ _ refused) (named_of g.I.Input.can_fail c.args.sources.items _ refused)
    (read_of g.I.Input.can_fail c.args.sources.items _ refused) c.in_err-joined.ensures.cause)

pub returns-in_err-report_joined-clause-failed : goal.returns-in_err-report_joined-clause-failed
returns-in_err-report_joined-clause-failed g c =
    at_fault _ c.from_residual-in_err-report_joined.result c.in_err-report_joined.field-0.0 (search rules)
    (failed_showing c.in_err-report_joined.field-0.0 c.in_err-report_joined.ensures.cause (λ inputs tell.
    let summed = c.in_ok-joined.ensures.whole inputs tell in
    let answered = subst (λ r. AreAnsweredWanted c.args.wanted.choice r inputs c.in_ok-joined.joined.parts.items) c.report_by_file-report.ensures (c.in_ok-joined.ensures.answered inputs tell) in
    (summed.good, λ told. (c.in_err-report_joined.ensures.writes inputs summed answered).prefix told)))

pub returns-clause-whole : goal.returns-clause-whole
returns-clause-whole g c = on_ok_always c.arrive.result (record {
  some = search rules;
  few = search rules;
  told = λ inputs tell.
      let summed = c.in_ok-joined.ensures.whole inputs tell in
      let answered = subst (λ r. AreAnsweredWanted c.args.wanted.choice r inputs c.in_ok-joined.joined.parts.items) c.report_by_file-report.ensures (c.in_ok-joined.ensures.answered inputs tell) in
      record { good = summed.good; few = few_told c.args.wanted.choice inputs _ summed; written = printed_whole (c.in_ok-report_joined.ensures.writes inputs summed answered) c.arrive.ensures.writes refl };
})

pub returns-clause-failed : goal.returns-clause-failed
returns-clause-failed g c =
    faults_are _ c.arrive.result _ c.arrive.ensures.cause (failed_showing _ tt (λ inputs tell.
    let summed = c.in_ok-joined.ensures.whole inputs tell in
    let answered = subst (λ r. AreAnsweredWanted c.args.wanted.choice r inputs c.in_ok-joined.joined.parts.items) c.report_by_file-report.ensures (c.in_ok-joined.ensures.answered inputs tell) in
    (summed.good, λ told. whole_prefix _ _ _ (printed_whole (c.in_ok-report_joined.ensures.writes inputs summed answered) c.arrive.ensures.writes refl told))))
