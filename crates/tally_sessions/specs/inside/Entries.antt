-- Stored entries by place.
use Rattle.std.specs.Prelude.{◌≡◌, ◌≤◌, ◌<◌, ℕ, List, [], get_or, length, pos}
use Rattle.tally_records.specs.declared.login.LoginRecord.{LoginRecord}
use Rattle.tally_sessions.specs.declared.entries.stored.StoredRecord.{StoredRecord}
use Rattle.tally_sessions.specs.declared.entry.Entry.{Entry}

-- what a read of an entry gives past the end
abbrev pub no_entry : Entry
no_entry = record { host = 0; item = record { kind = 0; line = []; user = []; remote = []; time = pos 0 } }

-- the entry at a place
abbrev pub entry_at : List Entry → ℕ → Entry
entry_at es i = get_or es i no_entry

-- the entries from n up to m are the host's
abbrev pub AreOf : ℕ → List Entry → ℕ → ℕ → Type 0
AreOf host es n m = (k : ℕ) → n ≤ k → k < m → (entry_at es k).host ≡ host

-- the record that is lent
abbrev pub record_in : StoredRecord → LoginRecord
record_in r = get_or r.records.now r.place no_entry.item

-- it is the record of the entry at its place
pub record IsRecordOf (es : List Entry) (r : StoredRecord) : Type 0 where
  pub within : r.at < length es
  pub is : record_in r ≡ (entry_at es r.at).item
