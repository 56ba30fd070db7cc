-- Entries that are left to go over.
use Rattle.std.specs.Prelude.{List, drop}
use Rattle.tally_sessions.specs.declared.entry.Entry.{Entry}
use Rattle.tally_sessions.specs.declared.entries.iter.EntryIter.{EntryIter}
use Rattle.tally_sessions.specs.Lent.{entries_in}

-- those from the next on
abbrev pub entries_left : EntryIter → List Entry
entries_left iter = drop iter.next (entries_in iter.entries)
