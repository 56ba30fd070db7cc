use Rattle.tally_moments.proofs.Reaching.{seconds_agree}
use Rattle.tally_moments.proofs.second.seconds_agree.Goals as goal

pub returns : goal.returns
returns c = seconds_agree
