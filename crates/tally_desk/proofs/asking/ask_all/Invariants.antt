use Rattle.std.proofs.Common.{◌≡◌, ◌⊎◌, ◌+◌, take}
use Rattle.tally_desk.specs.Passes.{IsCurrent, Keeps}
use Rattle.tally_desk.specs.Rounds.{Asks}
use Rattle.tally_desk.proofs.asking.ask_all.Given as goal

abbrev pub invariant-loop-question : goal.invariant-loop-question
invariant-loop-question g l = record {
  keeps : Keeps l.initial.pass l.pass;
  current : (l.pass ≡ l.initial.pass) ⊎ IsCurrent l.pass;
  next : l.next ≡ l.turn + l.question-index;
  asked : Asks l.initial.pass l.pass (take l.question-index l.questions);
}
