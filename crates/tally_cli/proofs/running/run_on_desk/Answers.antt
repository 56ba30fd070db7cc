use Rattle.std.proofs.Common.{rules, subst}
use Rattle.tally_print.specs.Output.{AppendsPrefix}
use Rattle.tally_cli.specs.Apart.{apart_of}
use Rattle.tally_cli.specs.declared.fault.RunFault.TheVariants.{Memory}
use Rattle.tally_cli.proofs.Reported.{at_fault, failed_printing, failed_unwritten, faults_are, on_ok_always, output_is, printed_whole, whole_prefix}
use Rattle.tally_cli.proofs.running.run_on_desk.Goals as goal

pub returns-in_err-kinds-clause-failed : goal.returns-in_err-kinds-clause-failed
returns-in_err-kinds-clause-failed g c =
    at_fault _ c.from_residual.result Memory (search rules) (failed_unwritten tt tt tt (λ host e. cc) (λ inputs tell. tt))

pub returns-in_err-book-clause-failed : goal.returns-in_err-book-clause-failed
returns-in_err-book-clause-failed g c =
    at_fault _ c.from_residual-in_err-book.result c.in_err-book.field-0.0 (search rules) (failed_unwritten (search rules) (search rules) (search rules) (search rules) c.in_err-book.ensures.cause)

pub returns-in_err-report-clause-failed : goal.returns-in_err-report-clause-failed
returns-in_err-report-clause-failed g c =
    at_fault _ c.from_residual-in_err-report.result c.in_err-report.field-0.0 (search rules) (failed_printing c.in_err-report.field-0.0 c.in_err-report.ensures.cause (λ inputs tell.
    let read = c.in_ok-book.ensures.whole inputs tell in
    let same = output_is g.I.Input.to_come c.args.clock.now (apart_of c.args.apart) c.args.job.now c.args.sources.items inputs c.in_ok-book.book c.as_slice-2.ensures.value c.in_ok-kinds.ensures c.as_slice.ensures.value c.host_order_is_enough.ensures tell read in
    (read.good, λ told. subst (AppendsPrefix _ _) same (c.in_err-report.ensures.writes.prefix told))))

pub returns-clause-whole : goal.returns-clause-whole
returns-clause-whole g c = on_ok_always c.finish.result (record {
  some = search rules;
  few = search rules;
  told = λ inputs tell.
      let read = c.in_ok-book.ensures.whole inputs tell in
      let same = output_is g.I.Input.to_come c.args.clock.now (apart_of c.args.apart) c.args.job.now c.args.sources.items inputs c.in_ok-book.book c.as_slice-2.ensures.value c.in_ok-kinds.ensures c.as_slice.ensures.value c.host_order_is_enough.ensures tell read in
      record { good = read.good; written = printed_whole c.in_ok-report.ensures.writes c.finish.ensures.writes same };
})

pub returns-clause-failed : goal.returns-clause-failed
returns-clause-failed g c =
    faults_are _ c.finish.result _ c.finish.ensures.cause (failed_printing _ tt (λ inputs tell.
    let read = c.in_ok-book.ensures.whole inputs tell in
    let same = output_is g.I.Input.to_come c.args.clock.now (apart_of c.args.apart) c.args.job.now c.args.sources.items inputs c.in_ok-book.book c.as_slice-2.ensures.value c.in_ok-kinds.ensures c.as_slice.ensures.value c.host_order_is_enough.ensures tell read in
    (read.good, λ told. whole_prefix _ _ _ (printed_whole c.in_ok-report.ensures.writes c.finish.ensures.writes same told))))
