use Rattle.std.proofs.Common.{◌+◌, length, map, rules, subst, sym}
use Rattle.std.specs.List.{All}
use Rattle.tally_print.specs.Output.{AppendsPrefix}
use Rattle.tally_sessions.specs.ConnectSums.{AreCountsOf}
use Rattle.tally_cli.specs.Output.{login_entries, proc_entries}
use Rattle.tally_cli.specs.Runs.{IsGood, Told, records_told}
use Rattle.tally_cli.specs.inside.LoginCounts.{IsLoginRefusal}
use Rattle.tally_cli.specs.Reading.{IsReadCause}
use Rattle.tally_cli.proofs.ByFile.{plain_printed}
use Rattle.tally_cli.proofs.Reported.{at_fault, failed_printing, failed_unwritten, faults_are, on_ok_always, printed_whole, whole_prefix}
use Rattle.tally_cli.proofs.running.totals.run_counted.Goals as goal

pub returns-in_err-counts-clause-failed : goal.returns-in_err-counts-clause-failed
returns-in_err-counts-clause-failed g c =
    let found = c.in_err-counts.field-0.0 in
    at_fault _ c.from_residual.result found (search rules) (λ apart together.
    let own = subst (λ r. IsLoginRefusal g.I.Input.can_fail r (length c.args.sources.items + c.args.job.now.askers) c.args.sources.items found) c.room_for-room.ensures (c.in_err-counts.ensures.refused (length c.args.sources.items + c.args.job.now.askers)) in
    failed_unwritten own.allowed own.named own.full own.read (λ inputs tell. subst (λ r. IsReadCause r inputs found) c.room_for-room.ensures (c.in_err-counts.ensures.cause inputs tell)))

pub returns-in_err-print_counts-clause-failed : goal.returns-in_err-print_counts-clause-failed
returns-in_err-print_counts-clause-failed g c =
    at_fault _ c.from_residual-in_err-print_counts.result c.in_err-print_counts.field-0.0 (search rules) (λ apart together. failed_printing c.in_err-print_counts.field-0.0 c.in_err-print_counts.ensures.cause (λ inputs tell.
    let counted = c.in_ok-counts.ensures.whole inputs tell in
    let kinds = map (λ (i : Told). i.kind) inputs in
    let logins = login_entries (map records_told inputs) in
    let procs = proc_entries (map records_told inputs) in
    let counts = subst (λ cs. AreCountsOf cs logins) (sym c.as_slice.ensures.value) counted.counts in
    let same = plain_printed c.args.clock.now apart c.args.job.now kinds logins procs together.0 together.1 in
    (subst (λ r. All (IsGood r) inputs) c.room_for-room.ensures counted.good, λ told. subst (AppendsPrefix _ _) same ((c.in_err-print_counts.ensures.writes kinds logins procs counts).prefix told))))

pub returns-clause-whole : goal.returns-clause-whole
returns-clause-whole g c = on_ok_always c.finish.result (λ apart together. record {
  some = c.requires.some;
  few = c.requires.few;
  told = λ inputs tell.
      let counted = c.in_ok-counts.ensures.whole inputs tell in
      let kinds = map (λ (i : Told). i.kind) inputs in
      let logins = login_entries (map records_told inputs) in
      let procs = proc_entries (map records_told inputs) in
      let counts = subst (λ cs. AreCountsOf cs logins) (sym c.as_slice.ensures.value) counted.counts in
      let same = plain_printed c.args.clock.now apart c.args.job.now kinds logins procs together.0 together.1 in
      record { good = subst (λ r. All (IsGood r) inputs) c.room_for-room.ensures counted.good; written = printed_whole (c.in_ok-print_counts.ensures.writes kinds logins procs counts) c.finish.ensures.writes same };
})

pub returns-clause-failed : goal.returns-clause-failed
returns-clause-failed g c =
    faults_are _ c.finish.result _ c.finish.ensures.cause (λ apart together. failed_printing _ tt (λ inputs tell.
    let counted = c.in_ok-counts.ensures.whole inputs tell in
    let kinds = map (λ (i : Told). i.kind) inputs in
    let logins = login_entries (map records_told inputs) in
    let procs = proc_entries (map records_told inputs) in
    let counts = subst (λ cs. AreCountsOf cs logins) (sym c.as_slice.ensures.value) counted.counts in
    let same = plain_printed c.args.clock.now apart c.args.job.now kinds logins procs together.0 together.1 in
    (subst (λ r. All (IsGood r) inputs) c.room_for-room.ensures counted.good, λ told. whole_prefix _ _ _ (printed_whole (c.in_ok-print_counts.ensures.writes kinds logins procs counts) c.finish.ensures.writes same told))))
