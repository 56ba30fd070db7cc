use Rattle.tally_sessions.proofs.sums.PeriodParts.{periods_add_up}
use Rattle.tally_sessions.proofs.laws.periods_add_up.Goals as goal

pub returns : goal.returns
returns c = periods_add_up
