use Rattle.std.proofs.Common.{◌≡◌, ◌⊎◌, ◌*◌, length}
use Rattle.tally_desk.specs.Passes.{IsCurrent, Keeps}
use Rattle.tally_desk.specs.Rounds.{Asks, in_rounds}
use Rattle.tally_desk.proofs.asking.ask_rounds.Given as goal

abbrev pub invariant-loop : goal.invariant-loop
invariant-loop g l = record {
  keeps : Keeps l.initial.pass l.pass;
  current : (l.pass ≡ l.initial.pass) ⊎ IsCurrent l.pass;
  turn : l.turn ≡ length l.questions * l.counter;
  asked : Asks l.initial.pass l.pass (in_rounds l.counter l.questions);
}
