use Rattle.std.proofs.Common.{ap, arith}
use Rattle.tally_check.proofs.StepLemmas.{length-logins_in}
use Rattle.tally_records.specs.Records.{record_count}
use Rattle.tally_check.proofs.posted.post_good.Goals as goal

pub prepare-requires-clause-room : goal.prepare-requires-clause-room
prepare-requires-clause-room c =
    let count = ap record_count c.in_ok-batch.ensures in
    omega (arith, count, length-logins_in c.args.records.now, c.requires.room)
