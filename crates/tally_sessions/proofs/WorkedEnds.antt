-- Worked ends of stays, computed by the definitions.
use Rattle.std.proofs.Common.{◌≡◌, ℕ, List, [], ◌∷◌, ◌++◌, map, replicate, Bool, true, false, Some, None, ℤ, pos, refl}
use Rattle.std.specs.Prelude.{codes}
use Rattle.tally_records.specs.declared.login.Event.{Event}
use Rattle.tally_records.specs.declared.login.Event.TheVariants as event
use Rattle.tally_records.specs.declared.login.LoginRecord.{LoginRecord}
use Rattle.tally_records.specs.Event.{event_of}
use Rattle.tally_records.specs.Sorted.{in_order, insert_in_order}
use Rattle.tally_records.specs.Text.{padded}
use Rattle.tally_sessions.specs.declared.entry.Entry.{Entry}
use Rattle.tally_sessions.specs.declared.entry.Stay.{Stay}
use Rattle.tally_sessions.specs.declared.entry.End.{End}
use Rattle.tally_sessions.specs.declared.entry.End.TheVariants.{Logout, Next, Down, Crash, Still}
use Rattle.tally_sessions.specs.Clock.{pending_old_time}
use Rattle.tally_sessions.specs.Hosts.{posted_by}
use Rattle.tally_records.specs.Choice.{every_login}
use Rattle.tally_sessions.specs.Sums.{sessions_of}
use Rattle.tally_sessions.specs.Rows.{user_times}
use Rattle.tally_sessions.specs.Stays.{end_at, ends_event, seconds_of, starts_stay}
use Rattle.tally_sessions.specs.Totals.{every_host, first_time, latest_stays, stays_of, total_of}

abbrev utmp : ℕ → List ℕ → List ℕ → ℤ → LoginRecord
utmp kind line user time = record { kind = kind; line = padded 32 line; user = padded 32 user; remote = padded 256 []; time = time }

abbrev tty1 : List ℕ
tty1 = codes "tty1"

abbrev tty2 : List ℕ
tty2 = codes "tty2"

abbrev ann : List ℕ
ann = codes "ann"

abbrev bob : List ℕ
bob = codes "bob"

abbrev boot : ℕ → LoginRecord
boot time = utmp 2 (codes "~") (codes "reboot") (pos time)

abbrev shutdown : ℕ → LoginRecord
shutdown time = utmp 1 (codes "~") (codes "shutdown") (pos time)

-- whether a boot started it, how it ended, when, and how long it was
abbrev ending : Stay → Bool × End × ℤ × ℕ
ending s = (s.is_boot, s.end, s.end_time, s.length)

abbrev endings : List LoginRecord → List (Bool × End × ℤ × ℕ)
endings records = map ending (stays_of 0 (posted_by 0 records) None)

-- the word for each event that a stay can meet last
ends : map end_at (event.Logout ∷ event.Login ∷ event.Down ∷ event.Boot ∷ event.OldTime ∷ event.NewTime ∷ event.Nothing ∷ []) ≡ Logout ∷ Next ∷ Down ∷ Crash ∷ Still ∷ Still ∷ Still ∷ []
ends = refl

-- a login and a boot start a stay
starts : map starts_stay (event.Login ∷ event.Boot ∷ event.Logout ∷ event.Down ∷ event.OldTime ∷ event.NewTime ∷ event.Nothing ∷ []) ≡ true ∷ true ∷ false ∷ false ∷ false ∷ false ∷ false ∷ []
starts = refl

-- a shutdown ends the running time and the session, and another runlevel ends neither
down : endings (boot 100 ∷ utmp 7 tty1 ann (pos 200) ∷ utmp 1 (codes "~") (codes "runlevel") (pos 300) ∷ shutdown 1000 ∷ boot 1100 ∷ []) ≡ (true, Down, pos 1000, 900) ∷ (false, Down, pos 1000, 800) ∷ (true, Still, pos 1100, 0) ∷ []
unfolding seconds_of pending_old_time event_of
down = refl

-- without a shutdown the next boot ends both
crash : endings (boot 100 ∷ utmp 7 tty1 ann (pos 200) ∷ boot 1100 ∷ shutdown 1300 ∷ []) ≡ (true, Crash, pos 1100, 1000) ∷ (false, Crash, pos 1100, 900) ∷ (true, Down, pos 1300, 200) ∷ []
unfolding seconds_of pending_old_time event_of
crash = refl

-- no login and no logout ends a running time, on its own line either
running_on : endings (boot 100 ∷ utmp 7 (codes "~") ann (pos 200) ∷ utmp 8 (codes "~") [] (pos 300) ∷ utmp 8 tty1 [] (pos 400) ∷ []) ≡ (true, Still, pos 400, 300) ∷ (false, Logout, pos 300, 100) ∷ []
unfolding seconds_of pending_old_time event_of
running_on = refl

-- a login or a logout on another line ends no session
other_lines : endings (utmp 7 tty1 ann (pos 100) ∷ utmp 7 tty2 ann (pos 200) ∷ utmp 8 tty2 ann (pos 300) ∷ utmp 8 tty1 [] (pos 500) ∷ []) ≡ (false, Logout, pos 500, 400) ∷ (false, Logout, pos 300, 100) ∷ []
unfolding seconds_of pending_old_time event_of
other_lines = refl

-- the same user's next login on the line ends a session too, and a login without a user is a logout
same_user : endings (utmp 7 tty1 ann (pos 100) ∷ utmp 7 tty1 ann (pos 250) ∷ utmp 7 tty1 [] (pos 600) ∷ []) ≡ (false, Next, pos 250, 150) ∷ (false, Logout, pos 600, 350) ∷ []
unfolding seconds_of pending_old_time event_of
same_user = refl

-- a logout without a line ends nothing: the session goes on up to that record's time
no_line : endings (utmp 7 tty1 ann (pos 1000000) ∷ utmp 8 [] [] (pos 1003600) ∷ []) ≡ (false, Still, pos 1003600, 3600) ∷ []
unfolding seconds_of pending_old_time event_of
no_line = refl

-- the first record that can end a session does, whatever its time
first_ends : endings (utmp 7 tty1 ann (pos 100) ∷ utmp 8 tty1 [] (pos 900) ∷ utmp 8 tty1 [] (pos 400) ∷ shutdown 1000 ∷ []) ≡ (false, Logout, pos 900, 800) ∷ []
unfolding seconds_of pending_old_time event_of
first_ends = refl

abbrev ann_and_bob : List Entry
ann_and_bob = posted_by 3 (utmp 7 tty1 ann (pos 1000) ∷ utmp 7 tty1 bob (pos 1600) ∷ utmp 8 tty1 [] (pos 2200) ∷ [])

abbrev stay_of_bob : Stay
stay_of_bob = record {
  host = 3;
  is_boot = false;
  user = padded 32 bob;
  line = padded 32 tty1;
  remote = padded 256 [];
  start = pos 1600;
  begin = pos 1600;
  end = Logout;
  end_time = pos 2200;
  length = 600;
}

-- the latest stay comes first, with each of its fields
latest : latest_stays 3 (Some 1) every_login ann_and_bob None ≡ stay_of_bob ∷ []
unfolding seconds_of pending_old_time event_of
latest = refl

-- all of them where no limit is given
all_latest : map ending (latest_stays 3 None every_login ann_and_bob None) ≡ (false, Logout, pos 2200, 600) ∷ (false, Next, pos 1600, 600) ∷ []
unfolding seconds_of pending_old_time event_of
all_latest = refl

-- the time of a host's first stored record, whatever it is
first_times : first_time 3 ann_and_bob ∷ first_time 0 ann_and_bob ∷ first_time 1 (posted_by 1 (utmp 0 [] [] (pos 9) ∷ utmp 7 tty1 ann (pos 5) ∷ [])) ∷ [] ≡ Some (pos 1000) ∷ None ∷ Some (pos 9) ∷ []
first_times = refl

-- rows of users by name, over all hosts; a running time counts nowhere, and a user of no seconds has no row
users : user_times (sessions_of every_login (posted_by 0 (boot 10 ∷ utmp 7 tty1 bob (pos 100) ∷ utmp 7 tty1 ann (pos 160) ∷ utmp 8 tty1 [] (pos 200) ∷ [])
    ++ posted_by 1 (utmp 7 tty2 ann (pos 50) ∷ utmp 8 tty2 [] (pos 80) ∷ utmp 7 tty2 (codes "zoe") (pos 90) ∷ utmp 8 tty2 [] (pos 90) ∷ [])) None)
    ≡ record { user = padded 32 ann; seconds = 70 } ∷ record { user = padded 32 bob; seconds = 60 } ∷ []
unfolding every_host seconds_of pending_old_time event_of in_order insert_in_order
users = refl

-- running times count in no total
no_running_time : total_of (posted_by 0 (boot 100 ∷ shutdown 1000 ∷ [])) None ≡ 0
unfolding every_host seconds_of pending_old_time event_of
no_running_time = refl

-- what ends a login on its line, what ends it from another line, and what ends a running time
abbrev ending_events : Event → Bool → List Bool
ending_events start same_line = map (λ later. ends_event start later same_line) (event.Login ∷ event.Logout ∷ event.Boot ∷ event.Down ∷ event.OldTime ∷ event.NewTime ∷ event.Nothing ∷ [])

-- a login is ended by what comes on its line, and by a boot and a shutdown wherever it is; a running time by these two alone
which_end : ending_events event.Login true ∷ ending_events event.Login false ∷ ending_events event.Boot true ∷ ending_events event.Boot false ∷ []
    ≡ (true ∷ true ∷ true ∷ true ∷ false ∷ false ∷ false ∷ [])
    ∷ (false ∷ false ∷ true ∷ true ∷ false ∷ false ∷ false ∷ [])
    ∷ (false ∷ false ∷ true ∷ true ∷ false ∷ false ∷ false ∷ [])
    ∷ (false ∷ false ∷ true ∷ true ∷ false ∷ false ∷ false ∷ [])
    ∷ []
which_end = refl

-- nothing ends what starts no stay
no_start : map (λ start. ending_events start true) (event.Logout ∷ event.Down ∷ event.OldTime ∷ event.NewTime ∷ event.Nothing ∷ []) ≡ replicate 5 (replicate 7 false)
no_start = refl

-- an open session is counted to the last record that its host stored, whatever its time and type
last_stored : endings (utmp 7 tty1 ann (pos 100) ∷ utmp 0 [] [] (pos 900) ∷ utmp 5 tty2 [] (pos 400) ∷ []) ≡ (false, Still, pos 400, 300) ∷ []
unfolding seconds_of pending_old_time event_of
last_stored = refl

-- a moment takes the place of that time, and of no record that ends a stay
until_a_moment : map ending (stays_of 0 (posted_by 0 (utmp 7 tty1 ann (pos 100) ∷ utmp 7 tty2 bob (pos 200) ∷ utmp 8 tty1 [] (pos 300) ∷ boot 400 ∷ [])) (Some (pos 1000)))
    ≡ (false, Logout, pos 300, 200) ∷ (false, Crash, pos 400, 200) ∷ (true, Still, pos 1000, 600) ∷ []
unfolding seconds_of pending_old_time event_of
until_a_moment = refl
