use Rattle.std.proofs.Common.{◌≡◌, ◌≤◌}
use Rattle.tally_cli.specs.inside.Files.{counts_of}
use Rattle.tally_cli.specs.inside.LoginCounts.{CameOf, counted_before}
use Rattle.tally_cli.proofs.Counted.{HaveSums, IsCountedTo}
use Rattle.tally_cli.proofs.running.login_counts.count_list.Given as goal

abbrev pub invariant-loop-at : goal.invariant-loop-at
invariant-loop-at g l = record {
  to : IsCountedTo (CameOf g.I.Input.to_come g.I.Input.can_fail l.room l.keeps_sessions) l.initial.files l.files l.at;
  sums : HaveSums l.files l.at;
  counted : l.counted ≡ counted_before (counts_of l.files) l.at;
  few : l.counted ≤ l.room;
}
