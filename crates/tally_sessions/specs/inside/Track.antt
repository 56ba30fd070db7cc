-- What the fields of a host's track hold.
use Rattle.std.specs.Prelude.{◌≡◌, ◌≤◌, ◌<◌, ◌+◌, ◌*◌, ◌^◌, ℕ, List, [], ◌∷◌, ◌&&◌, take, map, get_or, length, Bool, true, false, bytes_eq, Option, Some, None, IsSome, is_some, not, option_map, sum_by, unwrap_or, slice_get, if◌then◌else◌, vec_len, vec_capacity, ℤ, pos, neg_ℤ, ◌+ℤ◌, ◌-ℤ◌, ◌≤ℤ◌}
use Rattle.std.specs.Map.{lookup}
use Rattle.std.specs.Option.{option_map_or, option_or}
use Rattle.tally_records.specs.declared.login.LoginRecord.{LoginRecord}
use Rattle.tally_records.specs.declared.login.Event.{Event}
use Rattle.tally_records.specs.declared.login.Event.TheVariants.{Login, Logout, Boot, Down}
use Rattle.tally_records.specs.Event.{event_of}
use Rattle.tally_sessions.specs.declared.sessions.TheConstants.{ENTRY_LIMIT}
use Rattle.tally_sessions.specs.declared.track.ended.EndedSums.{EndedSums}
use Rattle.tally_sessions.specs.declared.track.ending.TheConstants.{NO_USER}
use Rattle.tally_sessions.specs.declared.entry.Entry.{Entry}
use Rattle.tally_sessions.specs.declared.entry.Stay.{Stay}
use Rattle.tally_sessions.specs.declared.entry.End.TheVariants as ends
use Rattle.tally_sessions.specs.declared.track.ending.Ending.{Ending}
use Rattle.tally_sessions.specs.declared.track.ending.TrackedStay.{TrackedStay}
use Rattle.tally_sessions.specs.declared.track.Track.{Track}
use Rattle.tally_sessions.specs.Clock.{pending_old_time}
use Rattle.tally_sessions.specs.Hosts.{of_host}
use Rattle.tally_sessions.specs.inside.Entries.{entry_at}
use Rattle.tally_sessions.specs.inside.Numbers.{Numbers, StandsAt}
use Rattle.tally_clock.specs.Days.{seconds_between}
use Rattle.tally_sessions.specs.Stays.{clamped, end_at, ends_stay, last_time, starts_stay, stay_with}
use Rattle.tally_sessions.specs.inside.Tracking.{Tracked, clock, tracked_from}

-- what a read of a tracked stay gives past the end
abbrev pub no_stay : TrackedStay
no_stay = record { entry = 0; clock_at = pos 0; ended = None; user = 0; start = pos 0 }

-- the tracked stay at a place
abbrev pub stay_at : List TrackedStay → ℕ → TrackedStay
stay_at stays i = get_or stays i no_stay

-- the record that started a tracked stay
abbrev pub start_of : List Entry → TrackedStay → LoginRecord
start_of es t = (entry_at es t.entry).item

-- the seconds between the start and the end
abbrev pub length_of : Ending → ℕ
length_of e = seconds_between e.begin e.end_time

-- the end of a stay from one time to that of an event, where the clock moved by this sum between them
abbrev pub ending_at : ℤ → ℤ → ℤ → Event → Ending
ending_at start sum time event = record {
  begin = clamped (start +ℤ sum);
  end = end_at event;
  end_time = time;
}

-- the end of a stay that started at a record's time, at another record's
abbrev pub ending_of : LoginRecord → ℤ → LoginRecord → Ending
ending_of r sum by = ending_at r.time sum by.time (event_of by)

-- an end, if there is one
abbrev pub end_if : Bool → Ending → Option Ending
end_if ends ending = if ends then Some ending else None

-- a tracked stay that a record started, after one record more
abbrev pub after_from : LoginRecord → ℤ → LoginRecord → TrackedStay → TrackedStay
after_from start now by t = record t { ended = option_or t.ended (end_if (ends_stay start by) (ending_of start (now -ℤ t.clock_at) by)) }

-- a tracked stay, likewise
abbrev pub after : List Entry → ℤ → LoginRecord → TrackedStay → TrackedStay
after es now by t = after_from (start_of es t) now by t

-- whether an event is a login
abbrev pub is_login_event : Event → Bool
is_login_event Login = true
is_login_event _ = false

-- whether an event ends every stay of its host
abbrev pub ends_every_stay : Event → Bool
ends_every_stay Boot = true
ends_every_stay Down = true
ends_every_stay _ = false

-- whether an event ends the login on its line alone
abbrev pub ends_line_stay : Event → Bool
ends_line_stay Login = true
ends_line_stay Logout = true
ends_line_stay _ = false

-- the stay of a record with this end
abbrev pub ended_with : ℕ → LoginRecord → Ending → Stay
ended_with host r e = stay_with host r e.begin e.end e.end_time (length_of e)

-- what is kept of a stay
abbrev pub tracked_in : ℕ → List Entry → TrackedStay → Tracked
tracked_in host es t = record { start = start_of es t; clock_at = t.clock_at; ended = option_map (ended_with host (start_of es t)) t.ended }

-- by how much a clock can move in so many records
pub record IsWithin (n : ℕ) (z : ℤ) : Type 0 where
  pub low : neg_ℤ (pos (2 ^ 32 * n)) ≤ℤ z
  pub high : z ≤ℤ pos (2 ^ 32 * n)

-- stays that started at one of so many entries
pub record ArePlaced (n : ℕ) (stays : List TrackedStay) : Type 0 where
  pub at : (k : ℕ) → k < length stays → (stay_at stays k).entry < n
  pub before : (k : ℕ) → k < length stays → IsWithin ENTRY_LIMIT (stay_at stays k).clock_at

-- the tracked stay at a place: its line leads to it, while it is a login that is pending
pub record IsTracked (es : List Entry) (n : ℕ) (lines : List (List ℕ × ℕ)) (swept i : ℕ) (t : TrackedStay) : Type 0 where
  pub placed : t.entry < n
  pub time : t.start ≡ (start_of es t).time
  pub starts : starts_stay (event_of (start_of es t)) ≡ true
  pub moved : IsWithin n t.clock_at
  pub ended : i < swept → IsSome t.ended
  pub found : t.ended ≡ None → event_of (start_of es t) ≡ Login → lookup (bytes_eq (start_of es t).line) lines ≡ Some i

-- a line's place is that of a login on it
pub record IsOnLine (es : List Entry) (stays : List TrackedStay) (line : List ℕ) (i : ℕ) : Type 0 where
  pub within : i < length stays
  pub login : event_of (start_of es (stay_at stays i)) ≡ Login
  pub same : (start_of es (stay_at stays i)).line ≡ line

-- the stays that are tracked, with the table that leads to those that are pending
pub record AreTracked (es : List Entry) (n : ℕ) (lines : List (List ℕ × ℕ)) (swept : ℕ) (stays : List TrackedStay) : Type 0 where
  pub at : (i : ℕ) → i < length stays → IsTracked es n lines swept i (stay_at stays i)
  pub on : (line : List ℕ) (i : ℕ) → lookup (bytes_eq line) lines ≡ Some i → IsOnLine es stays line i

-- whose sessions are counted: those of all users, or of one
abbrev pub counts : Option (List ℕ) → LoginRecord → Bool
counts None r = is_login_event (event_of r)
counts (Some user) r = is_login_event (event_of r) && bytes_eq r.user user

-- whether the sessions of a user are among those
abbrev pub covers : Option (List ℕ) → List ℕ → Bool
covers None user = true
covers (Some name) user = bytes_eq user name

-- the length of a stay that a record started, once it has ended, where the record counts
abbrev pub ended_from : Option (List ℕ) → LoginRecord → TrackedStay → ℕ
ended_from who start t = if counts who start then option_map_or length_of t.ended 0 else 0

-- the length of a tracked stay, likewise
abbrev pub ended_length : Option (List ℕ) → List Entry → TrackedStay → ℕ
ended_length who es t = ended_from who (start_of es t) t

-- the lengths of the sessions that have ended
abbrev pub ended_sum : Option (List ℕ) → List Entry → List TrackedStay → ℕ
ended_sum who es stays = sum_by (ended_length who es) stays

-- the sum that is kept of them
abbrev pub sum_of : EndedSums → Option (List ℕ) → ℕ
sum_of sums None = sums.all
sum_of sums (Some user) = unwrap_or (lookup (bytes_eq user) sums.users.entries) 0

-- the length of a stay that has ended fits in 32 bits
abbrev pub LengthFits : TrackedStay → Type 0
LengthFits t = (e : Ending) → t.ended ≡ Some e → length_of e < 2 ^ 32

-- where the sum of a session's user stands; a running time is of no user
pub record HasUser (es : List Entry) (users : Numbers) (t : TrackedStay) : Type 0 where
  pub login : event_of (start_of es t) ≡ Login → StandsAt users t.user (start_of es t).user
  pub boot : event_of (start_of es t) ≡ Boot → t.user ≡ NO_USER

-- the sums of the sessions among stays that have ended, and a sum for the user of each session
pub record HasSums (es : List Entry) (sums : EndedSums) (stays : List TrackedStay) : Type 0 where
  pub at : (who : Option (List ℕ)) → sum_of sums who ≡ ended_sum who es stays
  pub entered : (k : ℕ) → k < length stays → HasUser es sums.users (stay_at stays k)
  pub few : length sums.users.entries ≤ length stays
  pub fits : (k : ℕ) → k < length stays → LengthFits (stay_at stays k)

-- the track of a host, after the first n entries
pub record IsTrack (host : ℕ) (es : List Entry) (n : ℕ) (track : Track) : Type 0 where
  pub stays : map (tracked_in host es) track.stays.items ≡ tracked_from host [] (of_host host (take n es))
  pub clock : track.clock ≡ clock (of_host host (take n es))
  pub moved : IsWithin n track.clock
  pub old_time : track.old_time ≡ pending_old_time (of_host host (take n es))
  pub first : track.first ≡ option_map (λ r. r.time) (slice_get (of_host host (take n es)) 0)
  pub last : track.last ≡ last_time (pos 0) (of_host host (take n es))
  pub swept : track.swept ≤ length track.stays.items
  pub tracked : AreTracked es n track.lines.entries track.swept track.stays.items
  pub count : length track.stays.items ≤ n
  pub sums : HasSums es track.sums track.stays.items

-- the track of a host without entries
abbrev pub IsNewTrack : Track → Type 0
IsNewTrack track = (host : ℕ) (es : List Entry) → IsTrack host es 0 track

-- the stay that the entry at a place starts, while the clock is this, with its user's sum at a place
abbrev pub started_from : LoginRecord → ℕ → ℤ → ℕ → List TrackedStay
started_from r at now user = if starts_stay (event_of r) then record { entry = at; clock_at = now; ended = None; user = user; start = r.time } ∷ [] else []

-- the stay that the entry at a place starts, likewise
abbrev pub started : List Entry → ℕ → ℤ → ℕ → List TrackedStay
started es at now user = started_from (entry_at es at).item at now user

-- a login's line leads to its place, and all other lines to where they led
abbrev pub LeadsTo : List (List ℕ × ℕ) → List (List ℕ × ℕ) → LoginRecord → ℕ → Type 0
LeadsTo lines lines' r i =
    (line : List ℕ) → lookup (bytes_eq line) lines' ≡ (if is_login_event (event_of r) && bytes_eq r.line line then Some i else lookup (bytes_eq line) lines)

-- room for so many stays more and their users
pub record CanStart (k : ℕ) (track : Track) : Type 0 where
  pub stays : vec_len track.stays + k ≤ vec_capacity track.stays
  pub users : k ≤ track.sums.users.spare

-- and for their lines
pub record HasRoom (k : ℕ) (track : Track) : Type 0 where
  pub starts : CanStart k track
  pub lines : k ≤ track.lines.spare

-- the end so far of a pending stay, counted from one time to another
abbrev pub still_at : ℤ → ℤ → ℤ → Ending
still_at start sum time = record {
  begin = clamped (start +ℤ sum);
  end = ends.Still;
  end_time = time;
}

-- the end so far of a pending stay that started at a record's time
abbrev pub still_of : LoginRecord → ℤ → ℤ → Ending
still_of r sum time = still_at r.time sum time

-- a tracked stay as it stands while the clock has moved so far, counted to this time
abbrev pub ending_now : List Entry → ℤ → ℤ → TrackedStay → Ending
ending_now es now time t = unwrap_or t.ended (still_of (start_of es t) (now -ℤ t.clock_at) time)

-- the stay that is tracked, as it stands now
abbrev pub stay_now : ℕ → List Entry → ℤ → ℤ → TrackedStay → Stay
stay_now host es now time t = ended_with host (start_of es t) (ending_now es now time t)

-- the length so far of a stay whose start counts, while it is pending
abbrev pub pending_length : Option (List ℕ) → List Entry → ℤ → ℤ → TrackedStay → ℕ
pending_length who es now time t =
    if not (is_some t.ended) && counts who (start_of es t) then length_of (still_of (start_of es t) (now -ℤ t.clock_at) time) else 0

-- what a read of a line gives past the end
abbrev pub no_line : List ℕ × ℕ
no_line = ([], 0)

-- the name at a place of a table of lines, and the place of the stay that it leads to
abbrev pub line_at : List (List ℕ × ℕ) → ℕ → List ℕ × ℕ
line_at lines k = get_or lines k no_line

-- the lengths of the sessions that are pending
abbrev pub pending_sum : Option (List ℕ) → List Entry → ℤ → ℤ → List TrackedStay → ℕ
pending_sum who es now time stays = sum_by (pending_length who es now time) stays
