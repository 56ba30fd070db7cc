-- Worked sums of users and hosts, computed by the definitions.
use Rattle.std.proofs.Common.{◌≡◌, ℕ, List, [], ◌∷◌, ◌++◌, map, length, take, replicate, Some, None, pos, refl}
use Rattle.std.specs.Prelude.{codes}
use Rattle.tally_records.specs.Choice.{every_login}
use Rattle.tally_records.specs.declared.login.LoginRecord.{LoginRecord}
use Rattle.tally_records.specs.Event.{event_of}
use Rattle.tally_records.specs.Sorted.{in_order, insert_in_order}
use Rattle.tally_records.specs.Text.{padded}
use Rattle.tally_sessions.specs.declared.entry.Entry.{Entry}
use Rattle.tally_sessions.specs.declared.times.UserTime.{UserTime}
use Rattle.tally_sessions.specs.Clock.{pending_old_time}
use Rattle.tally_sessions.specs.Hosts.{posted_by}
use Rattle.tally_sessions.specs.Rows.{user_times}
use Rattle.tally_sessions.specs.Stays.{seconds_of}
use Rattle.tally_sessions.specs.Sums.{sessions_of}
use Rattle.tally_sessions.specs.Totals.{connect_of, every_host, limited, session_seconds, stays_of, total_of, user_seconds}

abbrev utmp : ℕ → List ℕ → List ℕ → ℕ → LoginRecord
utmp kind line user time = record { kind = kind; line = padded 32 line; user = padded 32 user; remote = padded 256 []; time = pos time }

abbrev tty1 : List ℕ
tty1 = codes "tty1"

abbrev ann : List ℕ
ann = codes "ann"

abbrev bob : List ℕ
bob = codes "bob"

-- a session of a user on a line
abbrev session : List ℕ → List ℕ → ℕ → ℕ → List LoginRecord
session line user begin end_time = utmp 7 line user begin ∷ utmp 8 line [] end_time ∷ []

-- ann and then bob on the line of one host, each for ten minutes, and ann for an hour on another
abbrev two_hosts : List Entry
two_hosts = posted_by 0 (utmp 7 tty1 ann 1000 ∷ utmp 7 tty1 bob 1600 ∷ utmp 8 tty1 [] 2200 ∷ []) ++ posted_by 1 (session tty1 ann 1000000 1003600)

-- the connect time of a user is that on all hosts, and the total that of all users
connect_times : map (λ user. connect_of (padded 32 user) two_hosts None) (ann ∷ bob ∷ codes "zoe" ∷ codes "an" ∷ []) ≡ 4200 ∷ 600 ∷ 0 ∷ 0 ∷ []
unfolding every_host seconds_of pending_old_time event_of
connect_times = refl

-- the total is that of all users on all hosts
total : total_of two_hosts None ≡ 4800
unfolding every_host seconds_of pending_old_time event_of
total = refl

-- the rows of the users, over all hosts
rows : user_times (sessions_of every_login two_hosts None) ≡ record { user = padded 32 ann; seconds = 4200 } ∷ record { user = padded 32 bob; seconds = 600 } ∷ []
unfolding every_host seconds_of pending_old_time event_of in_order insert_in_order
rows = refl

-- a boot, ann from 100 on and bob from 200 up to 500
abbrev open_and_ended : List Entry
open_and_ended = posted_by 0 (utmp 2 (codes "~") (codes "reboot") 50 ∷ utmp 7 tty1 ann 100 ∷ utmp 7 (codes "tty2") bob 200 ∷ utmp 8 (codes "tty2") [] 500 ∷ [])

-- a moment counts for the open session alone
until_a_moment : connect_of (padded 32 ann) open_and_ended (Some (pos 1100)) ∷ connect_of (padded 32 bob) open_and_ended (Some (pos 1100)) ∷ connect_of (padded 32 ann) open_and_ended None ∷ [] ≡ 1000 ∷ 300 ∷ 400 ∷ []
unfolding every_host seconds_of pending_old_time event_of
until_a_moment = refl

-- of one host; a running time is no user's, and in no sum
of_one_host : map (λ user. user_seconds (padded 32 user) (stays_of 0 open_and_ended None)) (ann ∷ bob ∷ codes "reboot" ∷ []) ≡ 400 ∷ 300 ∷ 0 ∷ []
unfolding seconds_of pending_old_time event_of
of_one_host = refl

-- the sum of a host is that of its sessions, without its running time
sessions_alone : session_seconds (stays_of 0 open_and_ended None) ≡ 700
unfolding seconds_of pending_old_time event_of
sessions_alone = refl

-- a user is one by all 32 bytes of the name
abbrev long_name : List ℕ
long_name = replicate 32 120

-- a name of 31 bytes is another than one that goes on
long_names : map (λ user. connect_of user (posted_by 0 (session tty1 long_name 0 10 ++ session tty1 (take 31 long_name) 20 50)) None) (long_name ∷ padded 32 (take 31 long_name) ∷ []) ≡ 10 ∷ 30 ∷ []
unfolding every_host seconds_of pending_old_time event_of
long_names = refl

abbrev user_of : UserTime → List ℕ
user_of row = row.user

-- names stand in the order of their bytes: capitals first, and a name before one that goes on
name_order : map user_of (user_times (sessions_of every_login (posted_by 0 (session tty1 ann 0 1 ++ session tty1 (codes "an") 2 3 ++ session tty1 (codes "Zoe") 4 5 ++ session tty1 (codes "_x") 6 7)) None))
    ≡ map (padded 32) (codes "Zoe" ∷ codes "_x" ∷ codes "an" ∷ codes "ann" ∷ [])
unfolding every_host seconds_of pending_old_time event_of in_order insert_in_order
name_order = refl

-- there are 128 hosts, from 0 to 127
hosts : length every_host ∷ take 2 every_host ≡ 128 ∷ 0 ∷ 1 ∷ []
unfolding every_host
hosts = refl

-- the last of them counts, and no host after it
last_host : total_of (posted_by 127 (session tty1 ann 0 10)) None ∷ total_of (posted_by 128 (session tty1 ann 0 10)) None ∷ [] ≡ 10 ∷ 0 ∷ []
unfolding every_host seconds_of pending_old_time event_of
last_host = refl

-- a limit above the number leaves all
limits : map (λ n. limited {X = ℕ} n (5 ∷ 6 ∷ 7 ∷ [])) (None ∷ Some 2 ∷ Some 9 ∷ []) ≡ (5 ∷ 6 ∷ 7 ∷ []) ∷ (5 ∷ 6 ∷ []) ∷ (5 ∷ 6 ∷ 7 ∷ []) ∷ []
limits = refl
