use Rattle.std.proofs.Common.{subst}
use Rattle.tally_usage.specs.Sums.{IsCauseAt}
use Rattle.tally_desk.proofs.CountingLemmas.{never_full}
use Rattle.tally_desk.proofs.feeding.counting.count_batch.Goals as goal

pub unreachable-requires : goal.unreachable-requires
unreachable-requires c = never_full _ _ c.requires.room (subst (IsCauseAt _) c.in-Err-Full.field-0-is c.in-Err-Full.ensures.cause)
