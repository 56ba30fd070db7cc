use Rattle.std.proofs.Common.{◌≡◌, ◌-◌, drop, length}
use Rattle.tally_sessions.specs.Lent.{entries_in}
use Rattle.tally_sessions.specs.Sums.{sessions_among}
use Rattle.tally_sessions.specs.Totals.{stays_of}
use Rattle.tally_sessions.proofs.track.Track.next_session.Given as goal

abbrev pub invariant-loop-stay : goal.invariant-loop-stay
invariant-loop-stay l =
    sessions_among l.choice (drop l.fn.stay (stays_of l.host (entries_in l.entries) l.until))
    ≡ sessions_among l.choice (drop l.stay (stays_of l.host (entries_in l.entries) l.until))

abbrev pub decreases-loop-stay : goal.decreases-loop-stay
decreases-loop-stay l = length l.self.stays.items - l.stay
