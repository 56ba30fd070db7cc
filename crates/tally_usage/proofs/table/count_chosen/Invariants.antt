use Rattle.std.proofs.Common.{◌≤◌, ◌+◌, length}
use Rattle.indexmap.specs.IndexMap.{spare}
use Rattle.tally_records.specs.PackedProc.{unpacked}
use Rattle.tally_usage.proofs.ChoiceLemmas.{HasCountedTo}
use Rattle.tally_usage.proofs.table.count_chosen.Given as goal

abbrev pub invariant-loop-process : goal.invariant-loop-process
invariant-loop-process l =
    record {
      counted : HasCountedTo l.choice (unpacked l.records) (record { commands = l.initial.commands.entries; users = l.initial.users.entries; total = l.initial.total }) l.process-index
          (record { commands = l.commands.entries; users = l.users.entries; total = l.total });
      room_for_commands : length l.records ≤ spare l.commands + l.process-index;
      room_for_users : length l.records ≤ spare l.users + l.process-index;
    }
