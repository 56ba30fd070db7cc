use Rattle.std.proofs.Common.{◌≡◌, unwrap_or}
use Rattle.tally_sessions.specs.Lent.{entries_in}
use Rattle.tally_sessions.proofs.track.StaysNow.{sum_so_far}
use Rattle.tally_sessions.proofs.track.Track.seconds.Given as goal

abbrev pub invariant-loop-k : goal.invariant-loop-k
invariant-loop-k l = l.seconds ≡ sum_so_far l.who (entries_in l.entries) (unwrap_or l.fn.until l.self.last) l.self l.k
