-- Sessions that are open: those of a host's logins that nothing has ended.
use Rattle.std.specs.Prelude.{◌≡◌, ◌&&◌, ℕ, Bool, List, Option, if◌then◌else◌, is_some, not, sum_by, ℤ, ◌+ℤ◌, ◌-ℤ◌}
use Rattle.std.specs.Option.{option_map_or}
use Rattle.tally_clock.specs.Days.{seconds_between}
use Rattle.tally_records.specs.Event.{event_of}
use Rattle.tally_records.specs.Period.{always}
use Rattle.tally_sessions.specs.declared.sums.Session.{Session}
use Rattle.tally_sessions.specs.Sums.{session_in}
use Rattle.tally_sessions.specs.Stays.{clamped}
use Rattle.tally_sessions.specs.inside.Track.{counts, covers, is_login_event}
use Rattle.tally_sessions.specs.inside.Tracking.{Tracked}

-- an open session: its line, its user, when it started, and by how much the clock had moved then
pub record Open : Type 0 where
  pub line : List ℕ
  pub user : List ℕ
  pub start : ℤ
  pub clock_at : ℤ

-- the session of what is kept of a login
abbrev pub open_of : Tracked → Open
open_of t = record { line = t.start.line; user = t.start.user; start = t.start.time; clock_at = t.clock_at }

-- whether it is a session that nothing has ended
abbrev pub is_open : Tracked → Bool
is_open t = is_login_event (event_of t.start) && not (is_some t.ended)

-- what it weighs where it is open
abbrev pub weight_of : (Open → ℕ) → Tracked → ℕ
weight_of weight t = if is_open t then weight (open_of t) else 0

-- these sessions are those that are open, in some order: they weigh as much, whatever the weights are
abbrev pub AreOpen : List Open → List Tracked → Type 0
AreOpen opens ts = (weight : Open → ℕ) → sum_by weight opens ≡ sum_by (weight_of weight) ts

-- how long a session is at a time, when the clock has moved so far
abbrev pub length_at : ℤ → ℤ → Open → ℕ
length_at now time o = seconds_between (clamped (o.start +ℤ (now -ℤ o.clock_at))) time

-- the same where it is one of all users, or of this one
abbrev pub seconds_at : Option (List ℕ) → ℤ → ℤ → Open → ℕ
seconds_at who now time o = if covers who o.user then length_at now time o else 0

-- the session itself, where it ends at a time
abbrev pub session_at : ℤ → ℤ → Open → Session
session_at now time o = record { user = o.user; begin = clamped (o.start +ℤ (now -ℤ o.clock_at)); end_time = time }

-- the length of a session that has ended, likewise
abbrev pub ended_seconds : Option (List ℕ) → Tracked → ℕ
ended_seconds who t = if counts who t.start then option_map_or (λ s. s.length) t.ended 0 else 0

-- what a session that has ended weighs
abbrev pub ended_weight : (Session → ℕ) → Tracked → ℕ
ended_weight weight t = if is_login_event (event_of t.start) then option_map_or (λ s. weight (session_in always s)) t.ended 0 else 0

-- these sessions are those that have ended, in some order
abbrev pub AreEnded : List Session → List Tracked → Type 0
AreEnded sessions ts = (weight : Session → ℕ) → sum_by weight sessions ≡ sum_by (ended_weight weight) ts
