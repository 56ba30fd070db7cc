-- What a book is seen as.
use Rattle.std.specs.Prelude.{ℕ, List}
use Rattle.tally_book.specs.declared.history.Call.{Call}
use Rattle.tally_clock.specs.Rows.{ClockRows}
use Rattle.tally_sessions.specs.declared.entry.Entry.{Entry}
use Rattle.tally_usage.specs.declared.entry.ProcEntry.{ProcEntry}

-- how many callers it serves, the clock of its days, how many records of each kind it has room for, the stored entries and the answered calls, each in stored order
pub record Contents : Type 0 where
  pub callers : ℕ
  pub clock : ClockRows
  pub room : ℕ
  pub logins : List Entry
  pub procs : List ProcEntry
  pub calls : List Call
