use Rattle.std.proofs.Common.{◌≡◌, ◌+◌, ℕ, length, take}
use Rattle.tally_sessions.specs.ConnectSums.{CountsMore}
use Rattle.tally_sessions.specs.inside.Running.{HasPlaces, IsRunning, counted_in}
use Rattle.tally_sessions.specs.inside.Track.{IsWithin}
use Rattle.tally_sessions.proofs.connect_sums.running.Running.go_over.Given as goal

abbrev pub invariant-loop-at : goal.invariant-loop-at
invariant-loop-at l = record {
  running : IsRunning l.self.count l.self;
  moved : IsWithin l.self.count l.self.clock;
  count : l.self.count ≡ l.fn.self.count + l.at;
  keeps : l.self.ended.keeps_sessions ≡ l.fn.self.ended.keeps_sessions;
  counted : CountsMore (counted_in l.fn.self) (counted_in l.self) (take l.at l.records);
  room : (k : ℕ) → l.at + k ≡ length l.records → HasPlaces k l.self;
}
