use Rattle.tally_clock.proofs.DayLemmas as lemmas
use Rattle.tally_clock.proofs.days.days_hold_their_times.Goals as goal

pub returns : goal.returns
returns c = lemmas.days_hold_their_times
