use Rattle.std.proofs.Common.{◌≡◌}
use Rattle.tally_desk.proofs.lock.TicketLock.turns_before.Given as goal

abbrev pub invariant-loop : goal.invariant-loop
invariant-loop l = record {
  table : l.seat.table_id ≡ l.fn.seat.table_id;
  same : l.seat.me ≡ l.fn.seat.me;
}
