use Rattle.std.proofs.Common.{take}
use Rattle.tally_attempts.proofs.table.count_chosen.Given as goal
use Rattle.tally_attempts.specs.Sums.{chosen_attempts}
use Rattle.tally_attempts.specs.inside.Counts.{HasCounts}
use Rattle.tally_sessions.specs.Lent.{entries_in}

abbrev pub invariant-loop-index : goal.invariant-loop-index
invariant-loop-index l = HasCounts l.table.entries (chosen_attempts l.choice (take l.index (entries_in l.entries)))
