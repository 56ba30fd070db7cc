-- The tracks of hosts without entries.
use Rattle.std.proofs.Common.{◌≡◌, ◌<◌, ℕ, All, List, [], length, sym, ap, subst}
use Rattle.std.proofs.lemmas.List.Elements.{All-nil}
use Rattle.tally_sessions.specs.declared.entry.Entry.{Entry}
use Rattle.tally_sessions.specs.declared.sessions.TheConstants.{HOST_LIMIT}
use Rattle.tally_sessions.specs.declared.track.Track.{Track}
use Rattle.tally_sessions.specs.inside.Kept.{AreNewTracks, AreTracks}

pub none_within : (es : List Entry) (hosts : ℕ) → es ≡ [] → All (λ (e : Entry). e.host < hosts) es
none_within es hosts none = subst (All (λ (e : Entry). e.host < hosts)) (sym none) (All-nil (λ (e : Entry). e.host < hosts))

pub new_tracks_are : (es : List Entry) (tracks : List Track) → es ≡ [] → AreNewTracks HOST_LIMIT tracks → AreTracks es (length es) tracks
new_tracks_are es tracks none h =
    subst (λ n. AreTracks es n tracks) (sym (ap length none))
    (record { count = h.count_is; at = λ host d lt. h.at host d lt host es })
