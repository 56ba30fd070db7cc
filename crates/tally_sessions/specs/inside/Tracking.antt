-- What is kept of the stays of one host, for a body that goes forward once.
use Rattle.std.specs.Prelude.{List, [], ◌∷◌, ◌++◌, ℕ, Bool, cond, Option, Some, None, ℤ, ◌+ℤ◌, ◌-ℤ◌}
use Rattle.tally_records.specs.declared.login.LoginRecord.{LoginRecord}
use Rattle.tally_records.specs.declared.login.Event.{Event}
use Rattle.tally_records.specs.declared.login.Event.TheVariants.{OldTime, NewTime}
use Rattle.tally_records.specs.Event.{event_of}
use Rattle.tally_sessions.specs.declared.entry.Stay.{Stay}
use Rattle.tally_sessions.specs.declared.entry.End.{End}
use Rattle.tally_sessions.specs.declared.entry.End.TheVariants as ends
use Rattle.tally_sessions.specs.Clock.{moved}
use Rattle.tally_clock.specs.Days.{seconds_between}
use Rattle.tally_sessions.specs.Stays.{ends_stay, first_end, end_of, clamped, starts_stay, stay_of, stay_with}

-- the old time that waits, after one event more
abbrev pub pending_at : Event → ℤ → Option ℤ → Option ℤ
pending_at OldTime time pending = Some time
pending_at NewTime time pending = None
pending_at _ time pending = pending

-- by how much the records move the clock in all
abbrev pub clock : List LoginRecord → ℤ
clock rs = moved [] rs

-- the stay of a record over which the clock moved by this sum
abbrev pub closed : ℕ → LoginRecord → ℤ → End → ℤ → Stay
closed host r sum end end_time = stay_with host r (clamped (r.time +ℤ sum)) end end_time (seconds_between (clamped (r.time +ℤ sum)) end_time)

-- this element, where it passes
abbrev pub this_if : {X : Type 0} → (X → Bool) → X → Option X
this_if p x = cond (p x) (Some x) None

-- what a body that goes forward once keeps of a stay: its start, the sum of the clock changes up to and with it, and the stay once it has ended
pub record Tracked : Type 0 where
  pub start : LoginRecord
  pub clock_at : ℤ
  pub ended : Option Stay

-- the stay of a record, once this record has ended it
abbrev pub ended_of : ℕ → List LoginRecord → LoginRecord → List LoginRecord → Option LoginRecord → Option Stay
ended_of host before r after None = None
ended_of host before r after (Some _) = Some (stay_of host before r after None)

-- what is kept of the stay of a record
abbrev pub tracked_of : ℕ → List LoginRecord → LoginRecord → List LoginRecord → Tracked
tracked_of host before r after = record { start = r; clock_at = clock (before ++ r ∷ []); ended = ended_of host before r after (first_end r after) }

-- what is kept of the stays of the records after these
abbrev pub tracked_from : ℕ → List LoginRecord → List LoginRecord → List Tracked
tracked_from host before [] = []
tracked_from host before (r ∷ after) =
    cond (starts_stay (event_of r)) (tracked_of host before r after ∷ tracked_from host (before ++ r ∷ []) after) (tracked_from host (before ++ r ∷ []) after)

-- an open stay ends at a record that ends it
abbrev pub ended_by : ℕ → ℤ → LoginRecord → Tracked → Option LoginRecord → Option Stay
ended_by host now x t None = None
ended_by host now x t (Some y) = Some (closed host t.start (now -ℤ t.clock_at) (end_of (Some y)) x.time)

-- a stay that has ended stays as it is
abbrev pub advance_if : ℕ → ℤ → LoginRecord → Tracked → Option Stay → Tracked
advance_if host now x t (Some s) = t
advance_if host now x t None = record t { ended = ended_by host now x t (this_if (ends_stay t.start) x) }

-- one record more, with the clock after it
abbrev pub advanced : ℕ → ℤ → LoginRecord → Tracked → Tracked
advanced host now x t = advance_if host now x t t.ended

-- what is kept of the stay that a record starts
abbrev pub fresh : List LoginRecord → LoginRecord → List Tracked
fresh before x = cond (starts_stay (event_of x)) (record { start = x; clock_at = clock (before ++ x ∷ []); ended = None } ∷ []) []

-- the stay of what is kept, where the clock has moved so far and this is the time to count to
abbrev pub completed_if : ℕ → ℤ → ℤ → Tracked → Option Stay → Stay
completed_if host now time t (Some s) = s
completed_if host now time t None = closed host t.start (now -ℤ t.clock_at) ends.Still time

-- the stay of what is kept, where the clock has moved so far and this is the time to count to
abbrev pub completed : ℕ → ℤ → ℤ → Tracked → Stay
completed host now time t = completed_if host now time t t.ended
