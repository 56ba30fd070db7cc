use Rattle.tally_sessions.proofs.sums.UserParts.{users_add_up}
use Rattle.tally_sessions.proofs.laws.users_add_up.Goals as goal

pub returns : goal.returns
returns c = users_add_up
