use Rattle.std.proofs.Common.{◌≡◌}
use Rattle.tally_scripts.proofs.desk.print_calls.Given as goal

abbrev pub invariant-loop-turn : goal.invariant-loop-turn
invariant-loop-turn g l = record {
  first : l.first.desk ≡ l.initial.first.desk;
  second : l.second.desk ≡ l.initial.second.desk;
}
