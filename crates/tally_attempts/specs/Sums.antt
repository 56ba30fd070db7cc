-- How many failed logins each user has from each remote host.
use Rattle.std.specs.Prelude.{ℕ, Bool, ◌&&◌, bytes_eq, List, filter, length, map, Option}
use Rattle.std.specs.Cmp.Lexicographic.{slice_cmp}
use Rattle.std.specs.Ordering.{nat_cmp, ordering_then}
use Rattle.std.specs.declared.cmp.Ordering.{Ordering}
use Rattle.tally_attempts.specs.Attempts.{is_chosen}
use Rattle.tally_attempts.specs.declared.attempt.AttemptSum.{AttemptSum}
use Rattle.tally_records.specs.Sorted.{in_order}
use Rattle.tally_records.specs.declared.choice.LoginChoice.{LoginChoice}
use Rattle.tally_records.specs.declared.login.LoginRecord.{LoginRecord}
use Rattle.tally_sessions.specs.Totals.{limited}
use Rattle.tally_sessions.specs.declared.entry.Entry.{Entry}

-- the chosen failed logins of all hosts, in stored order
abbrev pub chosen_attempts : LoginChoice → List Entry → List LoginRecord
chosen_attempts choice entries = map (λ e. e.item) (filter (λ e. is_chosen choice e.item) entries)

-- a record is of this user and this remote host
abbrev pub is_from : List ℕ → List ℕ → LoginRecord → Bool
is_from user remote r = bytes_eq user r.user && bytes_eq remote r.remote

-- the row of a record's user and remote host, which counts those of both among the records
abbrev pub attempt_sum : List LoginRecord → LoginRecord → AttemptSum
attempt_sum rs r = record { user = r.user; remote = r.remote; attempts = length (filter (is_from r.user r.remote) rs) }

-- the most first, then by the user's bytes, then by the remote host's
abbrev pub attempt_sum_cmp : AttemptSum → AttemptSum → Ordering
attempt_sum_cmp a b =
    ordering_then (ordering_then (nat_cmp b.attempts a.attempts) (slice_cmp nat_cmp a.user b.user)) (slice_cmp nat_cmp a.remote b.remote)

-- the rows of records: one for each user and remote host, in order
unfoldable pub sum_rows : List LoginRecord → List AttemptSum
sum_rows rs = in_order attempt_sum_cmp (map (attempt_sum rs) rs)

-- the first rows of the chosen failed logins of all hosts
abbrev pub attempt_sums : Option ℕ → LoginChoice → List Entry → List AttemptSum
attempt_sums limit choice entries = limited limit (sum_rows (chosen_attempts choice entries))
