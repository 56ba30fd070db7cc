use Rattle.std.proofs.Common.{refl}
use Rattle.tally_print.specs.Text.{moment}
use Rattle.tally_print.proofs.laws.moments_have_their_days.Goals as goal

pub returns : goal.returns
unfolding moment
returns c clock time = refl
