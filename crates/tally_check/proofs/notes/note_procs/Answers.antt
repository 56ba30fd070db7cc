use Rattle.std.proofs.Common.{[], arith}
use Rattle.tally_check.proofs.NoteLemmas.{proc-next, procs-so-far}
use Rattle.tally_check.proofs.notes.note_procs.Goals as goal

pub with_proc-requires : goal.with_proc-requires
with_proc-requires c =
    let few = c.requires.few in
    procs-so-far few.0 c.args.records.now c.loop-bytes.bytes-index c.loop-bytes.notes (omega arith) few.2 (c.loop-bytes.invariant few.0 few.1)

pub loop-bytes-preserved : goal.loop-bytes-preserved
loop-bytes-preserved c before is =
    proc-next before c.args.records.now c.loop-bytes.bytes-index [] c.loop-bytes.notes c.with_proc.result (omega arith) (c.loop-bytes.invariant before is) c.with_proc.ensures
