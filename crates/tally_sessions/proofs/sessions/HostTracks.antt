-- The track of a host among those of all.
use Rattle.std.proofs.Common.{◌≡◌, ◌<◌, ℕ, List, get_or, sym, subst}
use Rattle.tally_sessions.specs.declared.entry.Entry.{Entry}
use Rattle.tally_sessions.specs.declared.track.Track.{Track}
use Rattle.tally_sessions.specs.inside.Kept.{AreTracks}
use Rattle.tally_sessions.specs.inside.Track.{HasRoom, IsTrack}

pub track_at : (es : List Entry) (n : ℕ) (tracks : List Track) (host : ℕ) (t : Track) → AreTracks es n tracks → host < 128 → t ≡ get_or tracks host t → IsTrack host es n t
track_at es n tracks host t h lt is = subst (IsTrack host es n) (sym is) (h.at host t lt)

pub room_at : (count : ℕ) (tracks : List Track) (host : ℕ) (t : Track) → ((d : Track) → HasRoom count (get_or tracks host d)) → t ≡ get_or tracks host t → HasRoom count t
room_at count tracks host t room is = subst (HasRoom count) (sym is) (room t)
