-- How a summary's fields hold its contents.
use Rattle.std.specs.Arc.{arc_value}
use Rattle.std.specs.Prelude.{◌≡◌, ◌+◌, ◌≤◌, nat_eq, List, All, IfSome, length}
use Rattle.std.specs.HashMap.{spare}
use Rattle.std.specs.Option.{option_map}
use Rattle.tally_records.specs.PackedProc.{unpacked}
use Rattle.tally_records.specs.ProcRecord.{IsBounded}
use Rattle.tally_records.specs.declared.process.ProcRecord.{ProcRecord}
use Rattle.tally_usage.specs.declared.entry.KeptProc.{KeptProc}
use Rattle.tally_usage.specs.declared.entry.TheConstants.{ENTRY_LIMIT}
use Rattle.tally_usage.specs.declared.summary.Summary.TheInside.{Inside}
use Rattle.tally_usage.specs.declared.summary.Waiting.{Waiting}
use Rattle.tally_usage.specs.Command.{command_of, is_same_command}
use Rattle.tally_usage.specs.Entries.{entries_kept, kept_in}
use Rattle.tally_usage.specs.inside.Entries.{AreNumbered, records_kept}
use Rattle.tally_usage.specs.Summary.{Contents}
use Rattle.tally_usage.specs.Totals.{HasTotals}
use Rattle.tally_usage.specs.Usage.{usage_of}

-- the entries that are kept
abbrev pub stored_of : Inside → List KeptProc
stored_of s = kept_in s.commands.entries s.kept.entries

-- the records that wait for `add`
abbrev pub waiting_of : Waiting → List ProcRecord
waiting_of w = unpacked (arc_value w.records).items

abbrev pub contents_of : Inside → Contents
contents_of s = record {
  entries = entries_kept (stored_of s);
  ready = option_map (λ w. record { host = w.host; records = waiting_of w }) s.waiting;
}

-- the records can be counted: there is room for each, and for a group of each
pub record CanCount (s : Inside) (rs : List ProcRecord) : Type 0 where
  pub few : length s.kept.entries + length rs ≤ ENTRY_LIMIT
  pub bounded : All IsBounded rs
  pub kept : length rs ≤ s.kept.spare
  pub commands : length rs ≤ spare s.commands
  pub users : length rs ≤ spare s.users

pub record IsSound (s : Inside) : Type 0 where
  pub few : length s.kept.entries ≤ ENTRY_LIMIT
  pub numbered : AreNumbered s.commands.entries s.kept.entries
  pub groups : length s.commands.entries ≤ length s.kept.entries
  pub bounded : All IsBounded (records_kept (stored_of s))
  pub total : s.total ≡ usage_of (records_kept (stored_of s))
  pub commands : HasTotals is_same_command command_of s.commands.entries (records_kept (stored_of s))
  pub users : HasTotals nat_eq (λ r. r.uid) s.users.entries (records_kept (stored_of s))
  pub waiting : IfSome s.waiting (λ w. CanCount s (waiting_of w))
