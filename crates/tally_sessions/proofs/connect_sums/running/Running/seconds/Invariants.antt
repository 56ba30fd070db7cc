use Rattle.std.proofs.Common.{◌≡◌, ◌+◌, ◌*◌, ◌≤◌, take}
use Rattle.tally_sessions.specs.Opens.{seconds_at}
use Rattle.tally_sessions.specs.inside.Slots.{open_count, weight_in}
use Rattle.tally_sessions.specs.inside.Track.{sum_of}
use Rattle.tally_sessions.proofs.connect_sums.running.Running.seconds.Given as goal

abbrev pub invariant-loop-k : goal.invariant-loop-k
invariant-loop-k l = record {
  value : l.seconds ≡ sum_of l.fn.self.ended.sums l.fn.who + weight_in (seconds_at l.fn.who l.fn.self.clock l.time) (take l.k l.fn.self.slots.items);
  small : l.seconds ≤ sum_of l.fn.self.ended.sums l.fn.who + 4294967295 * open_count (take l.k l.fn.self.slots.items);
}
