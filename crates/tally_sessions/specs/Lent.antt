-- Stored entries as they are lent.
use Rattle.std.specs.Prelude.{List, take}
use Rattle.tally_sessions.specs.declared.entries.Entries.{Entries}
use Rattle.tally_sessions.specs.declared.entry.Entry.{Entry}

-- the first so many of the list
unfoldable pub entries_in : Entries → List Entry
entries_in lent = take lent.count lent.list.now
