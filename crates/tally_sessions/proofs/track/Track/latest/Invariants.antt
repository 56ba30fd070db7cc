use Rattle.std.proofs.Common.{◌≡◌, ◌≤◌, ◌<◌, ◌^◌, All, filter, map, drop, reverse, unwrap_or, vec_len}
use Rattle.tally_sessions.specs.declared.entry.Stay.{Stay}
use Rattle.tally_sessions.specs.Choice.{is_shown}
use Rattle.tally_sessions.specs.Lent.{entries_in}
use Rattle.tally_sessions.specs.inside.Track.{stay_now}
use Rattle.tally_sessions.proofs.track.Track.latest.Given as goal

abbrev pub decreases-loop-i : goal.decreases-loop-i
decreases-loop-i l = l.i

abbrev pub invariant-loop-i : goal.invariant-loop-i
invariant-loop-i l = record {
  within : l.i ≤ vec_len l.self.stays;
  told : l.found.items ≡ reverse (filter (is_shown l.choice l.fn.until) (drop l.i (map (stay_now l.host (entries_in l.entries) l.self.clock (unwrap_or l.fn.until l.self.last)) l.self.stays.items)));
  few : vec_len l.found ≤ l.limit;
  lengths : All (λ (s : Stay). s.length < 2 ^ 32) l.found.items;
}
