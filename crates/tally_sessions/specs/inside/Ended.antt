-- What is kept of the sessions of a host that have ended.
use Rattle.std.specs.Prelude.{◌≡◌, ◌≤◌, ◌<◌, ◌+◌, ◌*◌, ℕ, ℤ, All, Bool, List, [], Option, get_or, if◌then◌else◌, length, map, sum_by, true, vec_capacity}
use Rattle.std.specs.Map.{keys_of}
use Rattle.tally_sessions.specs.declared.connect_sums.ended.Ended.{Ended}
use Rattle.tally_sessions.specs.declared.connect_sums.ended.EndedSession.{EndedSession}
use Rattle.tally_sessions.specs.declared.sums.Session.{Session}
use Rattle.tally_sessions.specs.ConnectSums.{Counted, sum_of as seen_of}
use Rattle.tally_clock.specs.Days.{seconds_between}
use Rattle.tally_sessions.specs.Opens.{Open, session_at}
use Rattle.tally_sessions.specs.inside.Track.{covers, sum_of}

-- a session that is kept, with the user at its place in a table
abbrev pub session_of : List (List ℕ × ℕ) → EndedSession → Session
session_of users s = record { user = get_or (keys_of users) s.user []; begin = s.begin; end_time = s.end_time }

-- the sessions that are kept
abbrev pub sessions_in : Ended → List Session
sessions_in e = map (session_of e.sums.users.entries) e.sessions.items

-- the user of each is one of the table
abbrev pub HaveUsers : Ended → Type 0
HaveUsers e = All (λ s. s.user < length e.sums.users.entries) e.sessions.items

-- what may be asked of sessions: the seconds of all users or of one, or what those that are kept weigh
pub data Asked : Type 0 where
  Seconds : (who : Option (List ℕ)) → Asked
  Weight : (weight : Session → ℕ) → Asked

-- what has ended gives
abbrev pub measured : Ended → Asked → ℕ
measured e (Seconds who) = sum_of e.sums who
measured e (Weight weight) = if e.keeps_sessions then sum_by weight (sessions_in e) else 0

-- the same, as it is seen of a count
abbrev pub counted : Counted → Asked → ℕ
counted c (Seconds who) = seen_of c who
counted c (Weight weight) = if c.keeps_sessions then sum_by weight c.sessions else 0

-- what one more gives
abbrev pub gives : Bool → Asked → Session → ℕ
gives keeps (Seconds who) s = if covers who s.user then seconds_between s.begin s.end_time else 0
gives keeps (Weight weight) s = if keeps then weight s else 0

-- what one that is open gives where it ends at a time, when the clock has moved so far
abbrev pub weighed : Bool → Asked → ℤ → ℤ → Open → ℕ
weighed keeps asked now time o = gives keeps asked (session_at now time o)

-- there is room for so many sessions more
pub record HasRoom (k : ℕ) (e : Ended) : Type 0 where
  pub users : k ≤ e.sums.users.spare
  pub sessions : e.keeps_sessions ≡ true → length e.sessions.items + k ≤ vec_capacity e.sessions

-- no more than so many sessions have ended meanwhile
pub record HasGrown (k : ℕ) (old new : Ended) : Type 0 where
  pub sums : (who : Option (List ℕ)) → sum_of new.sums who ≤ sum_of old.sums who + 4294967295 * k
  pub users : length new.sums.users.entries ≤ length old.sums.users.entries + k
  pub spare : old.sums.users.spare ≤ new.sums.users.spare + k
  pub sessions : length new.sessions.items ≤ length old.sessions.items + k
  pub capacity : vec_capacity new.sessions ≡ vec_capacity old.sessions
  pub keeps : new.keeps_sessions ≡ old.keeps_sessions
  pub have : HaveUsers new
