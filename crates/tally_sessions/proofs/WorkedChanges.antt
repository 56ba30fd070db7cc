-- Worked clock changes, computed by the definitions.
use Rattle.std.proofs.Common.{◌≡◌, ℕ, ◌^◌, ◌-◌, List, [], ◌∷◌, ◌++◌, map, true, false, Some, None, ℤ, pos, neg_ℤ, refl}
use Rattle.std.specs.Prelude.{codes}
use Rattle.tally_records.specs.declared.login.Event.{Event}
use Rattle.tally_records.specs.declared.login.Event.TheVariants as event
use Rattle.tally_records.specs.declared.login.LoginRecord.{LoginRecord}
use Rattle.tally_records.specs.Event.{event_of}
use Rattle.tally_records.specs.Text.{padded}
use Rattle.tally_sessions.specs.declared.entry.Entry.{Entry}
use Rattle.tally_sessions.specs.declared.entry.Stay.{Stay}
use Rattle.tally_sessions.specs.declared.entry.End.TheVariants.{Logout}
use Rattle.tally_sessions.specs.Clock.{is_clock_event, moved, old_time_at, pending_old_time, shift, shift_at}
use Rattle.tally_sessions.specs.Hosts.{posted_by}
use Rattle.tally_sessions.specs.Stays.{seconds_of}
use Rattle.tally_sessions.specs.Totals.{stays_of}

abbrev utmp : ℕ → List ℕ → List ℕ → List ℕ → ℤ → LoginRecord
utmp kind line user remote time = record { kind = kind; line = padded 32 line; user = padded 32 user; remote = padded 256 remote; time = time }

abbrev tty1 : List ℕ
tty1 = codes "tty1"

abbrev ann : List ℕ
ann = codes "ann"

abbrev login : ℕ → LoginRecord
login time = utmp 7 tty1 ann (codes "h.example") (pos time)

abbrev logout : ℕ → LoginRecord
logout time = utmp 8 tty1 [] [] (pos time)

abbrev boot : ℕ → LoginRecord
boot time = utmp 2 (codes "~") (codes "reboot") [] (pos time)

abbrev shutdown : ℕ → LoginRecord
shutdown time = utmp 1 (codes "~") (codes "shutdown") [] (pos time)

abbrev old_time : ℤ → LoginRecord
old_time time = utmp 4 (codes "~") [] [] time

abbrev new_time : ℤ → LoginRecord
new_time time = utmp 3 (codes "~") [] [] time

abbrev all_events : List Event
all_events = event.Login ∷ event.Logout ∷ event.Boot ∷ event.Down ∷ event.OldTime ∷ event.NewTime ∷ event.Nothing ∷ []

-- ---- events and records

-- an old and a new time are the halves of a change
halves : map is_clock_event all_events ≡ false ∷ false ∷ false ∷ false ∷ true ∷ true ∷ false ∷ []
halves = refl

-- an old time alone waits for its new one
old_times : map (λ e. old_time_at e (pos 5)) all_events ≡ None ∷ None ∷ None ∷ None ∷ Some (pos 5) ∷ None ∷ None ∷ []
old_times = refl

-- a new time moves the clock from the old time that waits, forward or back, and nothing else does
shifts : map (λ e. shift_at e (Some (pos 300)) (pos 500)) all_events ≡ pos 0 ∷ pos 0 ∷ pos 0 ∷ pos 0 ∷ pos 0 ∷ pos 200 ∷ pos 0 ∷ []
shifts = refl

-- the clock may be put back, and without an old time it is not moved
shifts_back : shift_at event.NewTime (Some (pos 500)) (pos 300) ∷ shift_at event.NewTime None (pos 300) ∷ [] ≡ neg_ℤ (pos 200) ∷ pos 0 ∷ []
shifts_back = refl

-- the latest old time waits, over other records, until a new time has come
pending : map pending_old_time ([] ∷ (old_time (pos 100) ∷ old_time (pos 250) ∷ login 260 ∷ []) ∷ (old_time (pos 250) ∷ old_time (pos 100) ∷ []) ∷ (old_time (pos 100) ∷ new_time (pos 200) ∷ login 300 ∷ []) ∷ [])
    ≡ None ∷ Some (pos 250) ∷ Some (pos 100) ∷ None ∷ []
unfolding pending_old_time event_of
pending = refl

-- what waits from before moves the clock, too
moves : shift (old_time (pos 100) ∷ []) (new_time (pos 150)) ∷ shift (old_time (pos 100) ∷ []) (login 150) ∷ moved (old_time (pos 100) ∷ []) (new_time (pos 150) ∷ old_time (pos 200) ∷ new_time (pos 190) ∷ []) ∷ [] ≡ pos 50 ∷ pos 0 ∷ pos 40 ∷ []
unfolding pending_old_time event_of
moves = refl

-- ---- stays

abbrev begin_and_length : Stay → ℤ × ℕ
begin_and_length s = (s.begin, s.length)

abbrev stays : List Entry → List (ℤ × ℕ)
stays entries = map begin_and_length (stays_of 0 entries None)

-- of two old times before a new one the later counts
second_old_time : stays (posted_by 0 (login 0 ∷ old_time (pos 100) ∷ old_time (pos 250) ∷ new_time (pos 300) ∷ logout 1000 ∷ [])) ≡ (pos 50, 950) ∷ []
unfolding seconds_of pending_old_time event_of
second_old_time = refl

-- a change that is whole before a login moves nothing of its session
before_the_login : stays (posted_by 0 (old_time (pos 100) ∷ new_time (pos 400) ∷ login 500 ∷ logout 700 ∷ [])) ≡ (pos 500, 200) ∷ []
unfolding seconds_of pending_old_time event_of
before_the_login = refl

-- nor does one that is whole after the logout
after_the_logout : stays (posted_by 0 (login 500 ∷ logout 700 ∷ old_time (pos 800) ∷ new_time (pos 2000) ∷ [])) ≡ (pos 500, 200) ∷ []
unfolding seconds_of pending_old_time event_of
after_the_logout = refl

-- nor one whose new time comes after the logout
over_the_logout : stays (posted_by 0 (login 500 ∷ old_time (pos 600) ∷ logout 700 ∷ new_time (pos 2000) ∷ [])) ≡ (pos 500, 200) ∷ []
unfolding seconds_of pending_old_time event_of
over_the_logout = refl

-- a clock that is put back moves the start back
put_back : stays (posted_by 0 (login 400 ∷ old_time (pos 500) ∷ new_time (pos 200) ∷ logout 700 ∷ [])) ≡ (pos 100, 600) ∷ []
unfolding seconds_of pending_old_time event_of
put_back = refl

-- two changes add up
two_changes : stays (posted_by 0 (login 0 ∷ old_time (pos 100) ∷ new_time (pos 200) ∷ old_time (pos 300) ∷ new_time (pos 350) ∷ logout 1000 ∷ [])) ≡ (pos 150, 850) ∷ []
unfolding seconds_of pending_old_time event_of
two_changes = refl

abbrev least : ℤ
least = neg_ℤ (pos (2 ^ 31))

abbrev most : ℤ
most = pos (2 ^ 31 - 1)

-- before they are brought into the range of times
there_and_back : stays (posted_by 0 (login 5 ∷ old_time least ∷ new_time most ∷ old_time most ∷ new_time least ∷ logout 105 ∷ [])) ≡ (pos 5, 100) ∷ []
unfolding seconds_of pending_old_time event_of
there_and_back = refl

-- a change moves the start of a running time, and of each session that is open
of_running_time : stays (posted_by 0 (boot 100 ∷ login 150 ∷ old_time (pos 200) ∷ new_time (pos 300) ∷ login 400 ∷ shutdown 1000 ∷ [])) ≡ (pos 200, 800) ∷ (pos 250, 150) ∷ (pos 400, 600) ∷ []
unfolding seconds_of pending_old_time event_of
of_running_time = refl

-- each host has a clock of its own: halves of two hosts make no change, and one of another host moves nothing
other_hosts : stays (posted_by 0 (login 0 ∷ old_time (pos 100) ∷ []) ++ posted_by 1 (new_time (pos 200) ∷ old_time (pos 300) ∷ new_time (pos 900) ∷ []) ++ posted_by 0 (logout 1000 ∷ [])) ≡ (pos 0, 1000) ∷ []
unfolding seconds_of pending_old_time event_of
other_hosts = refl

abbrev stay_of_ann : Stay
stay_of_ann = record {
  host = 0;
  is_boot = false;
  user = padded 32 ann;
  line = padded 32 tty1;
  remote = padded 256 (codes "h.example");
  start = pos 1000;
  begin = pos 4000;
  end = Logout;
  end_time = pos 6000;
  length = 2000;
}

-- the start stays as recorded, and the remote host is that of the login
whole_stay : stays_of 0 (posted_by 0 (login 1000 ∷ old_time (pos 2000) ∷ new_time (pos 5000) ∷ logout 6000 ∷ [])) None ≡ stay_of_ann ∷ []
unfolding seconds_of pending_old_time event_of
whole_stay = refl
