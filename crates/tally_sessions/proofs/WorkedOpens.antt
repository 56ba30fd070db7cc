-- Worked sessions that are open and that have ended, computed by the definitions.
use Rattle.std.proofs.Common.{◌≡◌, ◌^◌, ◌-◌, ℕ, List, [], ◌∷◌, map, true, false, Option, Some, None, ℤ, pos, neg_ℤ, refl, arith}
use Rattle.std.specs.Prelude.{codes}
use Rattle.tally_records.specs.declared.login.Event.TheVariants as event
use Rattle.tally_records.specs.declared.login.LoginRecord.{LoginRecord}
use Rattle.tally_records.specs.Event.{event_of}
use Rattle.tally_records.specs.Text.{padded}
use Rattle.tally_sessions.specs.declared.sums.Session.{Session}
use Rattle.tally_sessions.specs.Clock.{pending_old_time}
use Rattle.tally_sessions.specs.ConnectSums.{tracked}
use Rattle.tally_sessions.specs.Opens.{AreEnded, AreOpen, Open, ended_seconds, ended_weight, is_open, length_at, open_of, seconds_at, session_at, weight_of}
use Rattle.tally_sessions.specs.Stays.{seconds_of}
use Rattle.tally_sessions.specs.inside.Track.{counts, covers, is_login_event}
use Rattle.tally_sessions.specs.inside.Tracking.{Tracked, clock}

abbrev pub utmp : ℕ → List ℕ → List ℕ → ℕ → LoginRecord
utmp kind line user time = record { kind = kind; line = padded 32 line; user = padded 32 user; remote = padded 256 []; time = pos time }

abbrev pub tty1 : List ℕ
tty1 = codes "tty1"

abbrev pub ann : List ℕ
ann = padded 32 (codes "ann")

abbrev pub bob : List ℕ
bob = padded 32 (codes "bob")

abbrev login_of_ann : LoginRecord
login_of_ann = utmp 7 tty1 (codes "ann") 200

abbrev login_of_bob : LoginRecord
login_of_bob = utmp 7 (codes "tty2") (codes "bob") 300

abbrev boot : ℕ → LoginRecord
boot time = utmp 2 (codes "~") (codes "reboot") time

-- ann from 200 to 500, and bob from 300 on
abbrev pub records : List LoginRecord
records = login_of_ann ∷ login_of_bob ∷ utmp 8 tty1 [] 500 ∷ []

-- a running time from 10 to 100, and another, with a session of bob, from 100 on
abbrev boots : List LoginRecord
boots = boot 10 ∷ boot 100 ∷ login_of_bob ∷ []

-- after a clock change of 3000 seconds
abbrev moved_records : List LoginRecord
moved_records = utmp 4 (codes "~") [] 2000 ∷ utmp 3 (codes "~") [] 5000 ∷ utmp 7 tty1 (codes "ann") 6000 ∷ []

abbrev pub open_of_bob : Open
open_of_bob = record { line = padded 32 (codes "tty2"); user = bob; start = pos 300; clock_at = pos 0 }

-- ---- what is open

-- a login is a session's start, and no other record is
logins : map is_login_event (event.Login ∷ event.Logout ∷ event.Boot ∷ event.Down ∷ event.OldTime ∷ event.NewTime ∷ event.Nothing ∷ []) ≡ true ∷ false ∷ false ∷ false ∷ false ∷ false ∷ false ∷ []
logins = refl

-- a session is open while nothing has ended it, and a running time is none
open_ones : map is_open (tracked records) ∷ map is_open (tracked boots) ∷ [] ≡ (false ∷ true ∷ []) ∷ (false ∷ false ∷ true ∷ []) ∷ []
unfolding seconds_of pending_old_time event_of
open_ones = refl

-- it has the login's line, user and recorded time
opens : map open_of (tracked (login_of_bob ∷ [])) ≡ open_of_bob ∷ []
unfolding seconds_of pending_old_time event_of
opens = refl

-- and the sum of the clock changes before it
moved_before : map (λ (t : Tracked). (open_of t).clock_at) (tracked moved_records) ∷ (clock moved_records ∷ []) ∷ [] ≡ (pos 3000 ∷ []) ∷ (pos 3000 ∷ []) ∷ []
unfolding seconds_of pending_old_time event_of
moved_before = refl

-- what has ended weighs nothing among what is open, and what is open nothing among what has ended
weights : map (weight_of (λ o. 7)) (tracked records) ∷ map (ended_weight (λ s. 9)) (tracked records) ∷ map (weight_of (λ o. 7)) (tracked boots) ∷ map (ended_weight (λ s. 9)) (tracked boots) ∷ []
    ≡ (0 ∷ 7 ∷ []) ∷ (9 ∷ 0 ∷ []) ∷ (0 ∷ 0 ∷ 7 ∷ []) ∷ (0 ∷ 0 ∷ 0 ∷ []) ∷ []
unfolding seconds_of pending_old_time event_of
weights = refl

-- the open sessions are all of them, each once, in some order
bob_is_open : AreOpen (open_of_bob ∷ []) (tracked records)
unfolding seconds_of pending_old_time event_of
bob_is_open weight = omega arith

-- none of them is left out
none_is_missing : ¬ AreOpen [] (tracked records)
unfolding seconds_of pending_old_time event_of
none_is_missing are = omega (arith, are (λ o. 1))

-- and none is there twice
none_is_twice : ¬ AreOpen (open_of_bob ∷ open_of_bob ∷ []) (tracked records)
unfolding seconds_of pending_old_time event_of
none_is_twice are = omega (arith, are (λ o. 1))

-- their order does not matter
in_some_order : (one other : Open) (ts : List Tracked) → AreOpen (one ∷ other ∷ []) ts → AreOpen (other ∷ one ∷ []) ts
in_some_order one other ts are weight = omega (arith, are weight)

-- ---- how long it is

-- a session that is open goes up to the time that it is counted to
lengths : map (λ time. length_at (pos 0) time open_of_bob) (pos 500 ∷ pos 1500 ∷ pos 300 ∷ pos 200 ∷ []) ≡ 200 ∷ 1200 ∷ 0 ∷ 0 ∷ []
lengths = refl

-- its start is moved by the clock changes after it alone
moved_lengths : map (λ now. length_at now (pos 2000) (record open_of_bob { clock_at = pos 100 })) (pos 100 ∷ pos 400 ∷ pos 50 ∷ []) ≡ 1700 ∷ 1400 ∷ 1750 ∷ []
moved_lengths = refl

-- and brought into the range of times
far_lengths : map (λ now. length_at now (pos (2 ^ 31 - 1)) open_of_bob) (pos (2 ^ 32) ∷ neg_ℤ (pos (2 ^ 32)) ∷ []) ≡ 0 ∷ 4294967295 ∷ []
far_lengths = refl

-- all users are asked for, or one
asked : map (λ who. seconds_at who (pos 0) (pos 500) open_of_bob) (None ∷ Some bob ∷ Some ann ∷ []) ≡ 200 ∷ 200 ∷ 0 ∷ []
asked = refl

-- one user is covered by that name alone
covered : covers None ann ∷ covers (Some ann) ann ∷ covers (Some ann) bob ∷ [] ≡ true ∷ true ∷ false ∷ []
covered = refl

-- a session counts by its login, of all users or of the one whose name this is
counted : map (counts None) (login_of_ann ∷ boot 10 ∷ utmp 8 tty1 (codes "ann") 5 ∷ []) ∷ map (counts (Some ann)) (login_of_ann ∷ login_of_bob ∷ utmp 8 tty1 (codes "ann") 5 ∷ []) ∷ [] ≡ (true ∷ false ∷ false ∷ []) ∷ (true ∷ false ∷ false ∷ []) ∷ []
unfolding event_of
counted = refl

-- the session goes from the moved start up to the time
session_of_bob : session_at (pos 50) (pos 1500) open_of_bob ≡ record { user = bob; begin = pos 350; end_time = pos 1500 }
session_of_bob = refl

-- ---- what has ended

abbrev pub session_of_ann : Session
session_of_ann = record { user = ann; begin = pos 200; end_time = pos 500 }

-- the seconds of what has ended, of all users or of one
ended : map (λ who. map (ended_seconds who) (tracked records)) (None ∷ Some ann ∷ Some bob ∷ []) ∷ map (λ who. map (ended_seconds who) (tracked boots)) (None ∷ Some (padded 32 (codes "reboot")) ∷ []) ∷ []
    ≡ ((300 ∷ 0 ∷ []) ∷ (300 ∷ 0 ∷ []) ∷ (0 ∷ 0 ∷ []) ∷ []) ∷ ((0 ∷ 0 ∷ 0 ∷ []) ∷ (0 ∷ 0 ∷ 0 ∷ []) ∷ []) ∷ []
unfolding seconds_of pending_old_time event_of
ended = refl

-- a session that has ended is whole: its user, from its start up to its end
ann_has_ended : AreEnded (session_of_ann ∷ []) (tracked records)
unfolding seconds_of pending_old_time event_of
ann_has_ended weight = omega arith

-- none of those that have ended is left out
none_has_ended : ¬ AreEnded [] (tracked records)
unfolding seconds_of pending_old_time event_of
none_has_ended are = omega (arith, are (λ s. 1))

-- what is kept is one stay for each login and boot, ended where a later record has ended it
abbrev kept : Tracked → ℤ × Option ℕ
kept t = (t.start.time, elim t.ended [ None ↦ None | Some s ↦ Some s.length ])

-- of these records: the starts, and the lengths of what has ended
kept_stays : map kept (tracked records) ∷ map kept (tracked boots) ∷ map kept (tracked moved_records) ∷ [] ≡ ((pos 200, Some 300) ∷ (pos 300, None) ∷ []) ∷ ((pos 10, Some 90) ∷ (pos 100, None) ∷ (pos 300, None) ∷ []) ∷ ((pos 6000, None) ∷ []) ∷ []
unfolding seconds_of pending_old_time event_of
kept_stays = refl
