use Rattle.std.proofs.Common.{◌≡◌, ℕ, ◌≤◌, ◌+◌, List, ◌++◌, length, nat_eq, take}
use Rattle.indexmap.specs.IndexMap.{spare}
use Rattle.tally_records.specs.PackedProc.{unpacked}
use Rattle.tally_records.specs.declared.process.ProcRecord.{ProcRecord}
use Rattle.tally_usage.specs.Command.{command_of, is_same_command}
use Rattle.tally_usage.specs.Entries.{kept_in}
use Rattle.tally_usage.specs.inside.Entries.{AreNumbered, kept_of, records_in}
use Rattle.tally_usage.specs.Totals.{HasTotals}
use Rattle.tally_usage.specs.Usage.{usage_of}
use Rattle.tally_usage.proofs.table.count_records.Given as goal

abbrev pub invariant-loop-packed : goal.invariant-loop-packed
invariant-loop-packed l =
    let before : List ProcRecord = records_in l.initial.commands.entries l.initial.kept.entries in
    let at : ℕ = length l.initial.kept.entries + l.packed-index in
    let front : List ProcRecord = take at (before ++ unpacked l.records) in
    record {
      kept : kept_in l.commands.entries l.kept.entries ≡ kept_in l.initial.commands.entries l.initial.kept.entries ++ kept_of l.host (take l.packed-index l.records);
      numbered : AreNumbered l.commands.entries l.kept.entries;
      groups : length l.commands.entries ≤ at;
      commands : HasTotals is_same_command command_of l.commands.entries front;
      users : HasTotals nat_eq (λ r. r.uid) l.users.entries front;
      total : l.total ≡ usage_of front;
      stored : length l.kept.entries ≡ at;
      room : length l.records ≤ l.kept.spare + l.packed-index;
      room_for_commands : length l.records ≤ spare l.commands + l.packed-index;
      room_for_users : length l.records ≤ spare l.users + l.packed-index;
    }
