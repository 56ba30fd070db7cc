use Rattle.tally_sessions.proofs.sums.HostNumbers.{hosts_are_alike}
use Rattle.tally_sessions.proofs.laws.hosts_are_alike.Goals as goal

pub returns : goal.returns
returns c = hosts_are_alike
