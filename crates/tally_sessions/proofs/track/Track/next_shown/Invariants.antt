use Rattle.std.proofs.Common.{◌≡◌, ◌-◌, drop, filter, reverse}
use Rattle.tally_sessions.specs.Choice.{is_shown}
use Rattle.tally_sessions.specs.Lent.{entries_in}
use Rattle.tally_sessions.specs.Totals.{stays_of}
use Rattle.tally_sessions.proofs.track.Track.next_shown.Given as goal

abbrev pub invariant-loop-place : goal.invariant-loop-place
invariant-loop-place l =
    filter (is_shown l.choice l.until) (drop l.from (reverse (stays_of l.host (entries_in l.entries) l.until)))
    ≡ filter (is_shown l.choice l.until) (drop l.place (reverse (stays_of l.host (entries_in l.entries) l.until)))

abbrev pub decreases-loop-place : goal.decreases-loop-place
decreases-loop-place l = l.count - l.place
