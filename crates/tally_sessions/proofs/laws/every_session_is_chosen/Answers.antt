use Rattle.tally_sessions.proofs.sums.EveryStay.{nothing_is_left_out}
use Rattle.tally_sessions.proofs.laws.every_session_is_chosen.Goals as goal

pub returns : goal.returns
returns c = nothing_is_left_out
