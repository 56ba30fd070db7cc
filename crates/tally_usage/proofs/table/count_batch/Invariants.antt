use Rattle.std.proofs.Common.{◌≤◌, ◌+◌, List, ◌++◌, length, take}
use Rattle.indexmap.specs.IndexMap.{spare}
use Rattle.tally_records.specs.PackedProc.{unpacked}
use Rattle.tally_records.specs.declared.process.ProcRecord.{ProcRecord}
use Rattle.tally_usage.specs.Sums.{AreSumsOf}
use Rattle.tally_usage.proofs.table.count_batch.Given as goal

abbrev pub invariant-loop-process : goal.invariant-loop-process
invariant-loop-process l =
    record {
      sums : (rs : List ProcRecord) → AreSumsOf (record { commands = l.initial.commands.entries; users = l.initial.users.entries; total = l.initial.total }) rs
          → AreSumsOf (record { commands = l.commands.entries; users = l.users.entries; total = l.total }) (take (length rs + l.process-index) (rs ++ unpacked l.records));
      room_for_commands : spare l.initial.commands ≤ spare l.commands + l.process-index;
      room_for_users : spare l.initial.users ≤ spare l.users + l.process-index;
    }
