-- Lengths of the sessions of all users, or of one.
use Rattle.std.specs.Prelude.{ℕ, ℤ, Bool, ◌&&◌, bytes_eq, List, sum, sum_by, map, filter, not, Option, Some, None}
use Rattle.tally_sessions.specs.declared.entry.Entry.{Entry}
use Rattle.tally_sessions.specs.declared.entry.Stay.{Stay}
use Rattle.tally_sessions.specs.Totals.{every_host, stays_of}

-- whether a stay is a session of all users, or of one
abbrev pub counted : Option (List ℕ) → Stay → Bool
counted None s = not s.is_boot
counted (Some user) s = not s.is_boot && bytes_eq s.user user

-- the lengths of these sessions among stays
abbrev pub seconds_of : Option (List ℕ) → List Stay → ℕ
seconds_of who stays = sum_by (λ s. s.length) (filter (counted who) stays)

-- the lengths of these sessions on all hosts
abbrev pub seconds_of_hosts : Option (List ℕ) → List Entry → Option ℤ → ℕ
seconds_of_hosts who entries until = sum (map (λ host. seconds_of who (stays_of host entries until)) every_host)
