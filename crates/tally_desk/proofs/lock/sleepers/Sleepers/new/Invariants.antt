use Rattle.std.proofs.Common.{◌≡◌, vec_len}
use Rattle.tally_desk.proofs.lock.sleepers.Sleepers.new.Given as goal

abbrev pub invariant-loop : goal.invariant-loop
invariant-loop l = vec_len l.places ≡ l.counter
