-- The failed logins of a host, gone over from the last one.
use Rattle.std.specs.Prelude.{ℕ, ◌≤◌, Bool, false, nat_le, if◌then◌else◌, List, ◌∷◌, Option, Some, None}
use Rattle.tally_attempts.specs.Attempts.{is_chosen}
use Rattle.tally_records.specs.declared.choice.LoginChoice.{LoginChoice}
use Rattle.tally_records.specs.declared.login.LoginRecord.{LoginRecord}
use Rattle.tally_sessions.specs.declared.entry.Entry.{Entry}

-- the record of an entry, where there is one and it is chosen
abbrev pub if_chosen : LoginChoice → Option Entry → Option LoginRecord
if_chosen choice None = None
if_chosen choice (Some e) = if is_chosen choice e.item then Some e.item else None

-- a list that begins with an item, where there is one
abbrev pub with_first : {X : Type 0} → Option X → List X → List X
with_first None xs = xs
with_first (Some x) xs = x ∷ xs

-- so many are as many as a limit leaves
abbrev pub is_full : Option ℕ → ℕ → Bool
is_full None count = false
is_full (Some limit) count = nat_le limit count

-- so many are no more than a limit leaves
abbrev pub IsWithin : Option ℕ → ℕ → Type 0
IsWithin None count = Unit {0}
IsWithin (Some limit) count = count ≤ limit
