-- Worked entries that are lent and gone over, computed by the definitions.
use Rattle.std.proofs.Common.{◌≡◌, List, [], ◌∷◌, ℕ, map, pos, refl}
use Rattle.tally_records.specs.declared.login.LoginRecord.{LoginRecord}
use Rattle.tally_sessions.specs.declared.entries.Entries.{Entries}
use Rattle.tally_sessions.specs.declared.entries.iter.EntryIter.{EntryIter}
use Rattle.tally_sessions.specs.declared.entry.Entry.{Entry}
use Rattle.tally_sessions.specs.Hosts.{posted_by}
use Rattle.tally_sessions.specs.Left.{entries_left}
use Rattle.tally_sessions.specs.Lent.{entries_in}

-- the record of a second
abbrev at : ℕ → LoginRecord
at second = record { kind = 7; line = []; user = []; remote = []; time = pos second }

abbrev stored : List Entry
stored = posted_by 0 (at 10 ∷ at 11 ∷ at 12 ∷ [])

-- the first so many of the stored entries
abbrev lent : ℕ → Entries
lent count = record { list = record { ref_ptr = (0, 0); now = stored }; count = count }

-- those that are stored afterwards are not lent
lent_entries : map (λ count. entries_in (lent count)) (0 ∷ 2 ∷ 3 ∷ 9 ∷ []) ≡ [] ∷ posted_by 0 (at 10 ∷ at 11 ∷ []) ∷ stored ∷ stored ∷ []
unfolding entries_in
lent_entries = refl

-- where so many of two lent entries have been gone over
abbrev after : ℕ → EntryIter
after passed = record { entries = lent 2; next = passed }

-- those that are lent and have not been gone over are left
left : map (λ passed. entries_left (after passed)) (0 ∷ 1 ∷ 2 ∷ []) ≡ posted_by 0 (at 10 ∷ at 11 ∷ []) ∷ posted_by 0 (at 11 ∷ []) ∷ [] ∷ []
unfolding entries_in
left = refl
