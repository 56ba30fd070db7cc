-- Entries as they are kept and lent.
use Rattle.std.specs.Prelude.{List, map}
use Rattle.tally_records.specs.PackedProc.{record_of}
use Rattle.tally_usage.specs.declared.entry.KeptProc.{KeptProc}
use Rattle.tally_usage.specs.declared.entry.ProcEntries.{ProcEntries}
use Rattle.tally_usage.specs.declared.entry.ProcEntry.{ProcEntry}
use Rattle.tally_usage.specs.declared.entry_iter.ProcEntryIter.{ProcEntryIter}
pub use Rattle.tally_usage.specs.Lent.{no_command, command_at, with_command, kept_at, kept_in}

-- the entry of kept fields
abbrev pub entry_of : KeptProc → ProcEntry
entry_of k = record { host = k.host; item = record_of k.item }

abbrev pub entries_kept : List KeptProc → List ProcEntry
entries_kept ks = map entry_of ks

-- the entries that are lent
abbrev pub entries_in : ProcEntries → List ProcEntry
entries_in es = entries_kept es.kept.now

-- those that are left to go over
abbrev pub entries_left : ProcEntryIter → List ProcEntry
entries_left iter = entries_kept iter.kept.now
