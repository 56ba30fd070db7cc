use Rattle.std.proofs.Common.{◌≡◌, ◌≤◌, length}
use Rattle.indexmap.specs.IndexMap.{spare}
use Rattle.std.specs.List.{IsDistinct}
use Rattle.std.specs.Map.{keys_of}
use Rattle.tally_usage.specs.Totals.{usage_at}
use Rattle.tally_usage.specs.Usage.{plus}
use Rattle.tally_usage.proofs.table.count_groups.Given as goal

-- the usages so far, and those of the entries to come, are those of both tables
abbrev pub invariant-loop-key : goal.invariant-loop-key
invariant-loop-key g l =
    record {
      sums : (k : g.row.K.Denot) → plus (usage_at g.K.PartialEq.eq l.table.entries k) (usage_at g.K.PartialEq.eq l.key-iterator k) ≡ plus (usage_at g.K.PartialEq.eq l.initial.table.entries k) (usage_at g.K.PartialEq.eq l.other.entries k);
      apart : IsDistinct g.K.PartialEq.eq (keys_of l.key-iterator);
      room : length l.key-iterator ≤ spare l.table;
    }
