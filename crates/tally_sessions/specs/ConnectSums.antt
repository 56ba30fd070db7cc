-- Connect time of login records, of which none is kept: of one host, and of several.
use Rattle.std.specs.Prelude.{◌≡◌, ◌<◌, ◌≤◌, ◌++◌, ℕ, Bool, true, List, [], Option, Some, None, bytes_eq, length, slice_index_or, sum_by, unwrap_or, ℤ, pos}
use Rattle.std.specs.Map.{lookup}
use Rattle.tally_records.specs.declared.login.LoginRecord.{LoginRecord}
use Rattle.tally_sessions.specs.declared.entry.Entry.{Entry}
use Rattle.tally_sessions.specs.declared.sums.Session.{Session}
use Rattle.tally_sessions.specs.Clock.{pending_old_time}
use Rattle.tally_sessions.specs.Hosts.{of_host}
use Rattle.tally_sessions.specs.Stays.{last_time}
use Rattle.tally_sessions.specs.inside.Tracking.{Tracked, clock, tracked_from}
use Rattle.tally_sessions.specs.Opens.{Open, AreEnded, AreOpen, ended_seconds}

-- what is counted: how many records, by how much they move the clock, the old time that waits for its new one, the last time, the
-- sessions that are open, and of those that have ended the seconds, by user and of all, and where they are kept the sessions too
pub record Counted : Type 0 where
  pub count : ℕ
  pub clock : ℤ
  pub old_time : Option ℤ
  pub last : ℤ
  pub opens : List Open
  pub users : List (List ℕ × ℕ)
  pub total : ℕ
  pub keeps_sessions : Bool
  pub sessions : List Session

-- the seconds of sessions that have ended: of all users, or of one
abbrev pub sum_of : Counted → Option (List ℕ) → ℕ
sum_of c None = c.total
sum_of c (Some user) = unwrap_or (lookup (bytes_eq user) c.users) 0

-- what goes forward over a host's records keeps of their stays
abbrev pub tracked : List LoginRecord → List Tracked
tracked rs = tracked_from 0 [] rs

-- this is the count of just these records
pub record IsCountOf (c : Counted) (rs : List LoginRecord) : Type 0 where
  pub count : c.count ≡ length rs
  pub clock : c.clock ≡ clock rs
  pub old_time : c.old_time ≡ pending_old_time rs
  pub last : c.last ≡ last_time (pos 0) rs
  pub opens : AreOpen c.opens (tracked rs)
  pub ended : (who : Option (List ℕ)) → sum_of c who ≡ sum_by (ended_seconds who) (tracked rs)
  pub sessions : c.keeps_sessions ≡ true → AreEnded c.sessions (tracked rs)

-- what it was the count of, and then these records too
abbrev pub CountsMore : Counted → Counted → List LoginRecord → Type 0
CountsMore old new more = (rs : List LoginRecord) → IsCountOf old rs → IsCountOf new (rs ++ more)

-- it is the answer about whatever records this is the count of
abbrev pub IsAbout : {X : Type 0} → Counted → (List LoginRecord → X) → X → Type 0
IsAbout c answer x = (rs : List LoginRecord) → IsCountOf c rs → x ≡ answer rs

-- these are the counts of the records of each host, from the first on
pub record AreCountsOf (cs : List Counted) (entries : List Entry) : Type 0 where
  pub each : (host : ℕ) (c : Counted) → host < length cs → IsCountOf (slice_index_or cs host c) (of_host host entries)
  pub others : (host : ℕ) → length cs ≤ host → of_host host entries ≡ []

-- it is the answer about whatever entries these are the counts of
abbrev pub IsAboutAll : {X : Type 0} → List Counted → (List Entry → X) → X → Type 0
IsAboutAll cs answer x = (entries : List Entry) → AreCountsOf cs entries → x ≡ answer entries
