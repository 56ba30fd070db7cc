use Rattle.std.proofs.Common.{◌∙◌, ap, arith, sym}
use Rattle.tally_check.proofs.TallyLemmas.{proc-count, proc-room, procs-join}
use Rattle.tally_check.specs.inside.Notes.{proc_notes}
use Rattle.tally_kinds.specs.Records.{records}
use Rattle.tally_check.proofs.tally.count_procs.Goals as goal

pub add_procs-requires-clause-before : goal.add_procs-requires-clause-before
add_procs-requires-clause-before c =
    let b = c.requires.before in
    let has = sym c.has_procs.ensures ∙ c.if-has_procs.true in
    (records 64 b.0, b.2 has, omega (arith, proc-count b.0, b.3, proc-room c.args.tally.now.guess has))

pub returns-then-has_procs-clause-counted : goal.returns-then-has_procs-clause-counted
returns-then-has_procs-clause-counted c before size was has =
    c.add_procs.ensures (records 64 before) (was has) ∙ ap proc_notes (sym (procs-join before c.args.block.now (omega (arith, size, c.requires.full))))
