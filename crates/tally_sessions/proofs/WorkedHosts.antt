-- Worked entries of one host, computed by the definitions.
use Rattle.std.proofs.Common.{◌≡◌, List, [], ◌∷◌, ◌++◌, ℕ, pos, refl}
use Rattle.tally_records.specs.declared.login.LoginRecord.{LoginRecord}
use Rattle.tally_sessions.specs.declared.entry.Entry.{Entry}
use Rattle.tally_sessions.specs.Hosts.{entries_of_host, of_host, posted_by}

-- the record of a second
abbrev at : ℕ → LoginRecord
at second = record { kind = 7; line = []; user = []; remote = []; time = pos second }

-- an entry of a host
abbrev of : ℕ → ℕ → Entry
of host second = record { host = host; item = at second }

-- batches of two hosts in turn, and one of a third
abbrev entries : List Entry
entries = posted_by 0 (at 10 ∷ at 11 ∷ []) ++ posted_by 1 (at 5 ∷ []) ++ posted_by 0 (at 12 ∷ []) ++ posted_by 7 (at 1 ∷ []) ++ posted_by 1 (at 6 ∷ at 4 ∷ []) ++ []

-- in stored order, whatever their times are
of_first : entries_of_host 0 entries ≡ of 0 10 ∷ of 0 11 ∷ of 0 12 ∷ []
of_first = refl

of_second : entries_of_host 1 entries ≡ of 1 5 ∷ of 1 6 ∷ of 1 4 ∷ []
of_second = refl

of_third : entries_of_host 7 entries ≡ of 7 1 ∷ []
of_third = refl

-- a host that has stored nothing
of_none : entries_of_host 2 entries ≡ []
of_none = refl

-- their records
records_of_second : of_host 1 entries ≡ at 5 ∷ at 6 ∷ at 4 ∷ []
records_of_second = refl
