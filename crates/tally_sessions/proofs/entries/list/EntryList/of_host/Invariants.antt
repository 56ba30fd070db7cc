use Rattle.std.proofs.Common.{◌≡◌}
use Rattle.tally_sessions.proofs.entries.OfHost.{found}
use Rattle.tally_sessions.proofs.entries.list.EntryList.of_host.Given as goal

abbrev pub invariant-loop-number : goal.invariant-loop-number
invariant-loop-number l = record {
  list : l.list ≡ found l.host l.count l.self-inside.batches.items l.number;
}
