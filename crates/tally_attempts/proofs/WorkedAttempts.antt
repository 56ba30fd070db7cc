-- Worked failed logins, computed by the definitions.
use Rattle.std.proofs.Common.{◌≡◌, ℕ, true, false, List, [], ◌∷◌, ◌++◌, map, replicate, Option, Some, None, ℤ, pos, Less, Equal, Greater, refl}
use Rattle.std.specs.Prelude.{codes}
use Rattle.tally_attempts.specs.Attempts.{attempts_before, is_attempt, latest_attempts}
use Rattle.tally_attempts.specs.Sums.{attempt_sum, attempt_sum_cmp, attempt_sums, chosen_attempts, is_from, sum_rows}
use Rattle.tally_attempts.specs.declared.attempt.Attempt.{Attempt}
use Rattle.tally_attempts.specs.declared.attempt.AttemptSum.{AttemptSum}
use Rattle.tally_records.specs.Choice.{every_login}
use Rattle.tally_records.specs.Sorted.{in_order, insert_in_order}
use Rattle.tally_records.specs.Text.{padded}
use Rattle.tally_records.specs.declared.choice.LoginChoice.{LoginChoice}
use Rattle.tally_records.specs.declared.login.LoginRecord.{LoginRecord}
use Rattle.tally_sessions.specs.Hosts.{posted_by}
use Rattle.tally_sessions.specs.Totals.{first_time}
use Rattle.tally_sessions.specs.declared.entry.Entry.{Entry}

abbrev record_of : ℕ → List ℕ → List ℕ → List ℕ → ℕ → LoginRecord
record_of kind line user remote time = record { kind = kind; line = padded 32 line; user = padded 32 user; remote = padded 256 remote; time = pos time }

abbrev ssh : List ℕ
ssh = codes "ssh:notty"

abbrev root : List ℕ
root = codes "root"

abbrev ann : List ℕ
ann = codes "ann"

abbrev far : List ℕ
far = codes "10.0.0.9"

abbrev near : List ℕ
near = codes "10.0.0.2"

-- what is a failed login: types 6 and 7 with a line and a user, without a line, without a user, without both, and other types
attempts : map is_attempt (record_of 6 ssh root far 1 ∷ record_of 7 ssh root far 1 ∷ record_of 6 [] root far 1 ∷ record_of 6 ssh [] far 1 ∷ record_of 6 [] [] far 1
    ∷ record_of 7 [] [] far 1 ∷ record_of 8 ssh root far 1 ∷ record_of 0 ssh root far 1 ∷ record_of 5 ssh root far 1 ∷ [])
    ≡ true ∷ true ∷ true ∷ true ∷ false ∷ false ∷ false ∷ false ∷ false ∷ []
attempts = refl

-- type 7 needs a line or a user likewise, and the types of the clock, of boots and of shutdowns are none
other_types : map is_attempt (record_of 7 [] root far 1 ∷ record_of 7 ssh [] far 1 ∷ record_of 1 ssh root far 1 ∷ record_of 2 ssh root far 1 ∷ record_of 3 ssh root far 1 ∷ record_of 4 ssh root far 1 ∷ record_of 9 ssh root far 1 ∷ [])
    ≡ true ∷ true ∷ false ∷ false ∷ false ∷ false ∷ false ∷ []
other_types = refl

-- host 0 from 100 on, after a record that is none at 50; host 1 at 200, between these
abbrev night : List Entry
night =
    posted_by 0 (record_of 0 [] [] [] 50 ∷ record_of 6 ssh root far 100 ∷ record_of 6 (codes "tty1") ann [] 150 ∷ [])
    ++ posted_by 1 (record_of 6 ssh root far 200 ∷ [])
    ++ posted_by 0 (record_of 7 ssh root near 300 ∷ record_of 8 ssh root near 350 ∷ record_of 6 ssh [] far 400 ∷ [])

abbrev named : List ℕ → List (Option (List ℕ))
named name = Some (padded 32 name) ∷ replicate 7 None

abbrev of_root : LoginChoice
of_root = record every_login { users = named root }

abbrev on_line : List ℕ → LoginChoice
on_line line = record every_login { lines = named line }

abbrev in_time : Option ℤ → Option ℤ → LoginChoice
in_time from to = record every_login { period = record { from = from; to = to } }

abbrev when : ℕ → Option ℕ → LoginChoice → List ℤ
when host limit choice = map (λ (a : Attempt). a.time) (latest_attempts host limit choice night)

-- the latest first, of each host its own
each_host : when 0 None every_login ∷ when 1 None every_login ∷ when 2 None every_login ∷ []
    ≡ (pos 400 ∷ pos 300 ∷ pos 150 ∷ pos 100 ∷ []) ∷ (pos 200 ∷ []) ∷ [] ∷ []
each_host = refl

-- the first two, none, and more than there are
limits : when 0 (Some 2) every_login ∷ when 0 (Some 0) every_login ∷ when 1 (Some 9) every_login ∷ [] ≡ (pos 400 ∷ pos 300 ∷ []) ∷ [] ∷ (pos 200 ∷ []) ∷ []
limits = refl

-- those before a place, which is the last entry, and that of another host
by_place : map (λ place. map (λ (a : Attempt). a.time) (attempts_before 0 every_login place night)) (7 ∷ 6 ∷ 4 ∷ 3 ∷ 1 ∷ 0 ∷ [])
    ≡ (pos 400 ∷ pos 300 ∷ pos 150 ∷ pos 100 ∷ []) ∷ (pos 300 ∷ pos 150 ∷ pos 100 ∷ []) ∷ (pos 150 ∷ pos 100 ∷ []) ∷ (pos 150 ∷ pos 100 ∷ []) ∷ [] ∷ [] ∷ []
by_place = refl

-- a user's, the latest one of these, and those on a line
by_names : when 0 None of_root ∷ when 0 (Some 1) of_root ∷ when 0 None (on_line (codes "tty1")) ∷ [] ≡ (pos 300 ∷ pos 100 ∷ []) ∷ (pos 300 ∷ []) ∷ (pos 150 ∷ []) ∷ []
by_names = refl

-- a period has its first second, and not its end
by_time : when 0 None (in_time (Some (pos 100)) (Some (pos 300))) ∷ when 0 None (in_time None (Some (pos 100))) ∷ when 0 None (in_time (Some (pos 400)) None) ∷ []
    ≡ (pos 150 ∷ pos 100 ∷ []) ∷ [] ∷ (pos 400 ∷ []) ∷ []
by_time = refl

-- a user, a line and a period choose together
by_all : when 0 None (record (in_time (Some (pos 100)) (Some (pos 300))) { users = named root; lines = named ssh }) ∷ when 0 None (record of_root { lines = named (codes "tty1") }) ∷ [] ≡ (pos 100 ∷ []) ∷ [] ∷ []
by_all = refl

-- of all hosts, in stored order
of_all_hosts : map (λ choice. map (λ (r : LoginRecord). r.time) (chosen_attempts choice night)) (every_login ∷ of_root ∷ on_line (codes "tty1") ∷ [])
    ≡ (pos 100 ∷ pos 150 ∷ pos 200 ∷ pos 300 ∷ pos 400 ∷ []) ∷ (pos 100 ∷ pos 200 ∷ pos 300 ∷ []) ∷ (pos 150 ∷ []) ∷ []
of_all_hosts = refl

-- the row of a record
rows : latest_attempts 1 None every_login night ≡ record { host = 1; user = padded 32 root; line = padded 32 ssh; remote = padded 256 far; time = pos 200 } ∷ []
rows = refl

-- a host begins with its first record, of whatever type
firsts : first_time 0 night ∷ first_time 1 night ∷ first_time 2 night ∷ [] ≡ Some (pos 50) ∷ Some (pos 200) ∷ None ∷ []
firsts = refl

abbrev sum_of : List ℕ → List ℕ → ℕ → AttemptSum
sum_of user remote attempts = record { user = padded 32 user; remote = padded 256 remote; attempts = attempts }

-- over all hosts, the most first, and at a tie by user: nobody, ann, root
sums : attempt_sums None every_login night ≡ sum_of root far 2 ∷ sum_of [] far 1 ∷ sum_of ann [] 1 ∷ sum_of root near 1 ∷ []
unfolding sum_rows in_order insert_in_order
sums = refl

-- the first rows, and those of a user in a part of the time
few_sums : attempt_sums (Some 1) every_login night ∷ attempt_sums None of_root night ∷ attempt_sums None (in_time None (Some (pos 150))) night ∷ []
    ≡ (sum_of root far 2 ∷ []) ∷ (sum_of root far 2 ∷ sum_of root near 1 ∷ []) ∷ (sum_of root far 1 ∷ []) ∷ []
unfolding sum_rows in_order insert_in_order
few_sums = refl

-- a row counts the records of its user and its remote host, both byte for byte
sources : map (is_from (padded 32 root) (padded 256 far)) (record_of 6 ssh root far 1 ∷ record_of 7 (codes "tty1") root far 2 ∷ record_of 6 ssh root near 1 ∷ record_of 6 ssh ann far 1 ∷ record_of 6 ssh (codes "Root") far 1 ∷ [])
    ≡ true ∷ true ∷ false ∷ false ∷ false ∷ []
sources = refl

row_of_source : attempt_sum (record_of 6 ssh root far 1 ∷ record_of 6 ssh root near 2 ∷ record_of 7 ssh root far 3 ∷ []) (record_of 7 ssh root far 3) ≡ sum_of root far 2
row_of_source = refl

-- no rows are the first none, and those of no records
no_sums : attempt_sums (Some 0) every_login night ∷ attempt_sums None every_login [] ∷ [] ≡ [] ∷ [] ∷ []
unfolding sum_rows in_order insert_in_order
no_sums = refl

-- the most first, then the user whose first other byte is lower, then the remote host likewise
row_order : map (attempt_sum_cmp (sum_of root far 2)) (sum_of ann far 1 ∷ sum_of ann far 3 ∷ sum_of ann near 2 ∷ sum_of (codes "rootx") near 2 ∷ sum_of root near 2 ∷ sum_of root (codes "10.0.1.0") 2 ∷ sum_of root far 2 ∷ [])
    ≡ Less ∷ Greater ∷ Greater ∷ Less ∷ Greater ∷ Less ∷ Equal ∷ []
row_order = refl

-- at a tie of a user by remote host, in whatever order they came
ties : map sum_rows ((record_of 6 ssh root near 1 ∷ record_of 6 ssh root far 2 ∷ []) ∷ (record_of 6 ssh root far 1 ∷ record_of 6 ssh root near 2 ∷ []) ∷ [])
    ≡ (sum_of root near 1 ∷ sum_of root far 1 ∷ []) ∷ (sum_of root near 1 ∷ sum_of root far 1 ∷ []) ∷ []
unfolding sum_rows in_order insert_in_order
ties = refl
