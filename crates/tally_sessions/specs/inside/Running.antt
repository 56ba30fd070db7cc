-- What the fields of a count hold, while it goes forward over the records of a host.
use Rattle.std.specs.Prelude.{◌≡◌, ◌≤◌, ◌<◌, ◌+◌, ◌*◌, ℕ, List, Option, true, get_or, length, vec_len, vec_capacity}
use Rattle.tally_sessions.specs.declared.connect_sums.running.Running.{Running}
use Rattle.tally_sessions.specs.declared.connect_sums.slot.Slot.{Slot}
use Rattle.tally_sessions.specs.declared.connect_sums.ended.Ended.{Ended}
use Rattle.tally_sessions.specs.declared.sessions.TheConstants.{ENTRY_LIMIT}
use Rattle.tally_sessions.specs.ConnectSums.{Counted}
use Rattle.tally_sessions.specs.inside.Ended.{HasRoom, HaveUsers, sessions_in}
use Rattle.tally_sessions.specs.inside.Numbers.{Numbers, StandsAt}
use Rattle.tally_sessions.specs.inside.Slots.{open_count, opens_in, slot_at}
use Rattle.tally_sessions.specs.inside.Track.{IsWithin, sum_of}

-- what is counted
abbrev pub counted_in : Running → Counted
counted_in r = record {
  count = r.count;
  clock = r.clock;
  old_time = r.old_time;
  last = r.last;
  opens = opens_in r.slots.items;
  users = r.ended.sums.users.entries;
  total = r.ended.sums.all;
  keeps_sessions = r.ended.keeps_sessions;
  sessions = sessions_in r.ended;
}

-- the slot of the line at a place: the line is listed while its session is open, and then the clock was near at its start
pub record IsSlot (n : ℕ) (lines : Numbers) (listed : List ℕ) (k : ℕ) (s : Slot) : Type 0 where
  pub named : StandsAt lines k s.line
  pub there : s.is_listed ≡ true → (j : ℕ) × (j < length listed) × (get_or listed j 0 ≡ k)
  pub pending : s.is_open ≡ true → s.is_listed ≡ true
  pub moved : s.is_open ≡ true → IsWithin n s.clock_at

-- the fields belong together, after n records
pub record AreKept (n : ℕ) (lines : Numbers) (slots : List Slot) (listed : List ℕ) (ended : Ended) : Type 0 where
  pub lines_are : length lines.entries ≡ length slots
  pub few : length slots ≤ n
  pub slots_are : (k : ℕ) → k < length slots → IsSlot n lines listed k (slot_at slots k)
  pub apart : (i k : ℕ) → i < length slots → k < length slots → (slot_at slots i).line ≡ (slot_at slots k).line → i ≡ k
  pub listed_are : (j : ℕ) → j < length listed → get_or listed j 0 < length slots
  pub fits : (who : Option (List ℕ)) → sum_of ended.sums who + 4294967295 * open_count slots ≤ 4294967295 * n
  pub users : length ended.sums.users.entries + open_count slots ≤ n
  pub sessions : length ended.sessions.items + open_count slots ≤ n
  pub have : HaveUsers ended

-- the clock was near at the start of each session that is open
abbrev pub AreNear : List Slot → Type 0
AreNear slots = (k : ℕ) → k < length slots → (slot_at slots k).is_open ≡ true → IsWithin ENTRY_LIMIT (slot_at slots k).clock_at

abbrev pub IsRunning : ℕ → Running → Type 0
IsRunning n r = AreKept n r.lines r.slots.items r.listed.items r.ended

-- the same after all that is counted, of which there is not too much
pub record IsSound (r : Running) : Type 0 where
  pub bounded : r.count ≤ ENTRY_LIMIT
  pub running : IsRunning r.count r
  pub moved : IsWithin r.count r.clock

-- there is room for so many records more
pub record HasPlaces (k : ℕ) (r : Running) : Type 0 where
  pub lines : k ≤ r.lines.spare
  pub slots : vec_len r.slots + k ≤ vec_capacity r.slots
  pub listed : vec_len r.listed + k ≤ vec_capacity r.listed
  pub ended : HasRoom (open_count r.slots.items + k) r.ended
