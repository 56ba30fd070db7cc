-- The fields of the sessions. Behind the stored entries stand those that are prepared.
use Rattle.std.specs.Prelude.{◌≡◌, ◌≤◌, ◌<◌, ◌+◌, ℕ, All, List, map, take, drop, length, get_or, Some, option_map}
use Rattle.tally_sessions.specs.declared.sessions.TheConstants.{ENTRY_LIMIT, HOST_LIMIT}
use Rattle.tally_sessions.specs.declared.entry.Entry.{Entry}
use Rattle.tally_sessions.specs.declared.sessions.Sessions.TheInside.{Inside}
use Rattle.tally_sessions.specs.declared.track.Track.{Track}
use Rattle.tally_sessions.specs.Hosts.{posted_by}
use Rattle.tally_sessions.specs.State.{State}
use Rattle.tally_sessions.specs.inside.Track.{HasRoom, IsNewTrack, IsTrack}

-- the entries that are prepared
abbrev pub staged : Inside → List Entry
staged a = drop a.stored a.entries

-- the state that the fields stand for
abbrev pub state_of : Inside → State
state_of a = record {
  hosts = a.hosts;
  entries = take a.stored a.entries;
  ready = option_map (λ host. record { host = host; records = map (λ e. e.item) (staged a) }) a.ready;
}

-- each host has its track, after the first n entries
pub record AreTracks (es : List Entry) (n : ℕ) (tracks : List Track) : Type 0 where
  pub count : length tracks ≡ HOST_LIMIT
  pub at : (host : ℕ) (d : Track) → host < HOST_LIMIT → IsTrack host es n (get_or tracks host d)

-- so many tracks without entries
pub record AreNewTracks (count : ℕ) (tracks : List Track) : Type 0 where
  pub count_is : length tracks ≡ count
  pub at : (k : ℕ) (d : Track) → k < count → IsNewTrack (get_or tracks k d)

-- the tracks of so many hosts from one on, after the first n entries
pub record AreTracksFrom (first count : ℕ) (es : List Entry) (n : ℕ) (tracks : List Track) : Type 0 where
  pub count_is : length tracks ≡ count
  pub at : (k : ℕ) (d : Track) → k < count → IsTrack (first + k) es n (get_or tracks k d)

-- the fields belong together: each track is that of its host after the stored entries, with room for the prepared ones
pub record IsSound (a : Inside) : Type 0 where
  pub few_hosts : a.hosts ≤ HOST_LIMIT
  pub within : All (λ e. e.host < a.hosts) (take a.stored a.entries)
  pub stored_within : a.stored ≤ length a.entries
  pub few : length a.entries ≤ ENTRY_LIMIT
  pub prepared : (host : ℕ) → a.ready ≡ Some host → posted_by host (map (λ e. e.item) (staged a)) ≡ staged a
  pub host_in : (host : ℕ) → a.ready ≡ Some host → host < a.hosts
  pub tracks : AreTracks a.entries a.stored a.tracks.items
  pub room : (host : ℕ) (d : Track) → a.ready ≡ Some host → HasRoom (length (staged a)) (get_or a.tracks.items host d)
