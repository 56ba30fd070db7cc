use Rattle.std.proofs.Common.{◌≡◌, ℕ, ◌+◌, ◌≤◌, ◌++◌, map, vec_len}
use Rattle.std.specs.List.{range_with_len}
use Rattle.std.specs.Vec.{vec_capacity}
use Rattle.tally_desk.specs.Passes.{first_pass, first_passes}
use Rattle.tally_desk.specs.inside.Views.{newcomers}
use Rattle.tally_desk.specs.inside.Seats.{standing}
use Rattle.tally_desk.proofs.desk.deal_all.Given as goal

-- the passes that are dealt, and those that are left
abbrev pub invariant-loop-number : goal.invariant-loop-number
invariant-loop-number l = record {
  table : l.seat.table_id ≡ l.lock.table.shared.table_id;
  dealt : vec_len l.passes ≡ l.number;
  room : l.opening.callers ≤ vec_capacity l.passes;
  left : (rest : ℕ) × (l.number + rest ≡ l.opening.callers) × (l.seat.me ≡ standing (newcomers l.opening.clock l.opening.room l.opening.callers l.number rest))
      × (l.passes.items ++ map (first_pass l.lock.table.shared.table_id l.opening.clock l.opening.room l.opening.callers) (range_with_len l.number rest) ≡ first_passes l.lock.table.shared.table_id l.opening.clock l.opening.room l.opening.callers);
}
