use Rattle.tally_cli.specs.inside.Counts.{CameOf}
use Rattle.tally_cli.proofs.Counted.{HaveSums, IsCountedTo}
use Rattle.tally_cli.proofs.running.counting.count_list.Given as goal

abbrev pub invariant-loop-at : goal.invariant-loop-at
invariant-loop-at g l = record {
  counted : IsCountedTo (CameOf l.choice g.I.Input.to_come g.I.Input.can_fail) l.initial.files l.files l.at;
  sums : HaveSums l.files l.at;
}
