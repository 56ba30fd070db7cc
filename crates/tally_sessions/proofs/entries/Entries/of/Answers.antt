use Rattle.std.proofs.Common.{refl}
use Rattle.tally_sessions.specs.Lent.{entries_in}
use Rattle.tally_sessions.proofs.entries.Entries.of.Goals as goal

pub returns : goal.returns
unfolding entries_in
returns c = refl
