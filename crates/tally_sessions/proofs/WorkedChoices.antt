-- Worked choices of stays and sessions, computed by the definitions.
use Rattle.std.proofs.Common.{◌≡◌, ℕ, List, [], ◌∷◌, ◌++◌, map, replicate, Option, Some, None, ℤ, pos, refl}
use Rattle.std.specs.Prelude.{codes}
use Rattle.tally_records.specs.Choice.{every_login}
use Rattle.tally_records.specs.Event.{event_of}
use Rattle.tally_records.specs.Text.{padded}
use Rattle.tally_records.specs.declared.choice.LoginChoice.{LoginChoice}
use Rattle.tally_records.specs.declared.login.LoginRecord.{LoginRecord}
use Rattle.tally_sessions.specs.Clock.{pending_old_time}
use Rattle.tally_sessions.specs.Hosts.{posted_by}
use Rattle.tally_sessions.specs.Choice.{seconds_within}
use Rattle.tally_sessions.specs.ChoiceLaws.{in_period}
use Rattle.tally_sessions.specs.Stays.{seconds_of}
use Rattle.tally_sessions.specs.Sums.{seconds_in, seconds_of_user, sessions_of}
use Rattle.tally_sessions.specs.Totals.{every_host, latest_stays}
use Rattle.tally_sessions.specs.declared.entry.Entry.{Entry}
use Rattle.tally_sessions.specs.declared.entry.Stay.{Stay}
use Rattle.tally_sessions.specs.declared.sums.Session.{Session}

abbrev utmp : ℕ → List ℕ → List ℕ → ℕ → LoginRecord
utmp kind line user time = record { kind = kind; line = padded 32 line; user = padded 32 user; remote = padded 256 []; time = pos time }

abbrev tty1 : List ℕ
tty1 = codes "tty1"

abbrev tty2 : List ℕ
tty2 = codes "tty2"

abbrev ann : List ℕ
ann = codes "ann"

abbrev bob : List ℕ
bob = codes "bob"

-- ann from 200 to 500 and from 900 on, bob from 300 to 800 and at 1000 for no second, after a boot at 100
abbrev night : List Entry
night = posted_by 0 (utmp 2 (codes "~") (codes "reboot") 100 ∷ utmp 7 tty1 ann 200 ∷ utmp 7 tty2 bob 300 ∷ utmp 8 tty1 [] 500 ∷ utmp 8 tty2 [] 800
    ∷ utmp 7 tty1 ann 900 ∷ utmp 7 tty2 bob 1000 ∷ utmp 8 tty2 [] 1000 ∷ [])

abbrev named : List ℕ → List (Option (List ℕ))
named name = Some (padded 32 name) ∷ replicate 7 None

abbrev of_user : List ℕ → LoginChoice
of_user user = record every_login { users = named user }

abbrev on_line : List ℕ → LoginChoice
on_line line = record every_login { lines = named line }

abbrev in_time : Option ℤ → Option ℤ → LoginChoice
in_time from to = record every_login { period = record { from = from; to = to } }

-- when the stays that are shown began
abbrev shown : LoginChoice → Option ℤ → List ℤ
shown choice until = map (λ (s : Stay). s.start) (latest_stays 0 None choice night until)

everyone : shown every_login None ≡ pos 1000 ∷ pos 900 ∷ pos 300 ∷ pos 200 ∷ pos 100 ∷ []
unfolding seconds_of pending_old_time event_of
everyone = refl

-- a user's, a running time as that of `reboot`, those of two users, and of a user on another's line none
by_users : shown (of_user ann) None ∷ shown (of_user (codes "reboot")) None ∷ shown (record every_login { users = named ann ++ named bob }) None
    ∷ shown (record (of_user ann) { lines = named tty2 }) None ∷ []
    ≡ (pos 900 ∷ pos 200 ∷ []) ∷ (pos 100 ∷ []) ∷ (pos 1000 ∷ pos 900 ∷ pos 300 ∷ pos 200 ∷ []) ∷ [] ∷ []
unfolding seconds_of pending_old_time event_of
by_users = refl

-- a running time is on no line
by_line : shown (on_line tty2) None ≡ pos 1000 ∷ pos 300 ∷ []
unfolding seconds_of pending_old_time event_of
by_line = refl

-- from 500 up to 900: what ends at 500 is over, what begins at 900 is too late, and what nothing has ended has no end
by_period : shown (in_time (Some (pos 500)) (Some (pos 900))) None ≡ pos 300 ∷ pos 100 ∷ []
unfolding seconds_of pending_old_time event_of
by_period = refl

-- a session of no second stands at its beginning: in the period that begins there, and in none that ends there
of_no_second : shown (in_time (Some (pos 1000)) None) None ∷ shown (in_time None (Some (pos 1000))) None ∷ []
    ≡ (pos 1000 ∷ pos 900 ∷ pos 100 ∷ []) ∷ (pos 900 ∷ pos 300 ∷ pos 200 ∷ pos 100 ∷ []) ∷ []
unfolding seconds_of pending_old_time event_of
of_no_second = refl

-- after the last record those are found that nothing has ended, unless they are counted up to an earlier moment
afterwards : shown (in_time (Some (pos 5000)) (Some (pos 5001))) None ∷ shown (in_time (Some (pos 5000)) (Some (pos 5001))) (Some (pos 2000))
    ∷ shown (in_time (Some (pos 1500)) (Some (pos 1501))) (Some (pos 2000)) ∷ []
    ≡ (pos 900 ∷ pos 100 ∷ []) ∷ [] ∷ (pos 900 ∷ pos 100 ∷ []) ∷ []
unfolding seconds_of pending_old_time event_of
afterwards = refl

-- an empty period has no second
empty_period : shown (in_time (Some (pos 400)) (Some (pos 400))) None ≡ []
unfolding seconds_of pending_old_time event_of
empty_period = refl

-- the limit counts what is shown
limit : map (λ (s : Stay). s.start) (latest_stays 0 (Some 1) (record (of_user bob) { period = record { from = None; to = Some (pos 1000) } }) night None) ≡ pos 300 ∷ []
unfolding seconds_of pending_old_time event_of
limit = refl

abbrev span : Session → ℤ × ℤ
span s = (s.begin, s.end_time)

-- sessions are cut to the period; one that is past it counts nothing
cut : map span (sessions_of (in_time (Some (pos 400)) (Some (pos 950))) night None)
    ≡ (pos 400, pos 500) ∷ (pos 400, pos 800) ∷ (pos 900, pos 950) ∷ (pos 1000, pos 950) ∷ []
unfolding every_host seconds_of pending_old_time event_of
cut = refl

seconds : map (λ choice. seconds_in (sessions_of choice night None)) (every_login ∷ in_time (Some (pos 400)) (Some (pos 950)) ∷ of_user ann ∷ on_line tty2 ∷ []) ≡ 900 ∷ 550 ∷ 400 ∷ 500 ∷ []
unfolding every_host seconds_of pending_old_time event_of
seconds = refl

of_ann : seconds_of_user (padded 32 ann) (sessions_of (in_time (Some (pos 400)) (Some (pos 950))) night None) ≡ 150
unfolding every_host seconds_of pending_old_time event_of
of_ann = refl

-- moments that no record can have are before all or after all
far_moments : map (λ choice. seconds_in (sessions_of choice night None)) (in_time (Some (pos 2147483653)) None ∷ in_time None (Some (pos 4294967295)) ∷ []) ≡ 0 ∷ 900 ∷ []
unfolding every_host seconds_of pending_old_time event_of
far_moments = refl

-- a clock change moves the beginning before the session is cut: from 4000 to 6000, of which 500 seconds are before 4500
moved_first : map (λ choice. seconds_in (sessions_of choice (posted_by 0 (utmp 7 tty1 ann 1000 ∷ utmp 4 [] [] 2000 ∷ utmp 3 [] [] 5000 ∷ utmp 8 tty1 [] 6000 ∷ [])) None))
    (every_login ∷ in_time None (Some (pos 4500)) ∷ []) ≡ 2000 ∷ 500 ∷ []
unfolding every_host seconds_of pending_old_time event_of
moved_first = refl

-- the seconds that a period has of each stay
within : map (λ (s : Stay). seconds_within (record { from = Some (pos 400); to = Some (pos 950) }) s) (latest_stays 0 None every_login night None) ≡ 0 ∷ 50 ∷ 400 ∷ 100 ∷ 550 ∷ []
unfolding seconds_of pending_old_time event_of
within = refl

-- a choice with another period has the same users and lines
period_alone : in_period (Some (pos 3)) (Some (pos 8)) (record (on_line tty2) { users = named ann; period = record { from = Some (pos 1); to = None } })
    ≡ record { users = named ann; lines = named tty2; period = record { from = Some (pos 3); to = Some (pos 8) } }
period_alone = refl

-- parts of a session that a period divides add up, and its later part begins at the moment
parts : map (λ choice. map span (sessions_of choice night None)) (in_period None (Some (pos 400)) (of_user ann) ∷ in_period (Some (pos 400)) None (of_user ann) ∷ [])
    ≡ ((pos 200, pos 400) ∷ (pos 900, pos 400) ∷ []) ∷ ((pos 400, pos 500) ∷ (pos 900, pos 1000) ∷ []) ∷ []
unfolding every_host seconds_of pending_old_time event_of
parts = refl
