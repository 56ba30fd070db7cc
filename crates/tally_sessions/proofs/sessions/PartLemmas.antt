-- The tracks of a part of the hosts.
use Rattle.std.proofs.Common.{◌≡◌, ◌≢◌, ◌⊎◌, inl, inr, ℕ, ◌+◌, ◌-◌, ◌<◌, ◌≤◌, List, ◌++◌, length, get_or, set, sym, ◌∙◌, arith, subst, length-append}
use Rattle.std.proofs.lemmas.Bool.{cases_eq, cases_lt}
use Rattle.std.proofs.lemmas.List.{length-set, get_or-set_same, get_or-set_other, get_or_append_left, get_or-append_right}
use Rattle.tally_sessions.specs.declared.entry.Entry.{Entry}
use Rattle.tally_sessions.specs.declared.track.Track.{Track}
use Rattle.tally_sessions.specs.inside.Entries.{AreOf}
use Rattle.tally_sessions.specs.inside.Kept.{AreNewTracks, AreTracks, AreTracksFrom}
use Rattle.tally_sessions.specs.inside.Track.{IsTrack}
use Rattle.tally_sessions.proofs.sessions.Tracks.{IsTrack-others}

-- before the first entry
pub AreTracksFrom-new : (first count : ℕ) (es : List Entry) (tracks : List Track) → AreNewTracks count tracks → AreTracksFrom first count es 0 tracks
AreTracksFrom-new first count es tracks h = record { count_is = h.count_is; at = λ k d lt. h.at k d lt (first + k) es }

-- entries of a host that is not among them
pub AreTracksFrom-others : (first count : ℕ) (es : List Entry) (n m : ℕ) (tracks : List Track) (host : ℕ) → AreTracksFrom first count es n tracks → (host < first) ⊎ (first + count ≤ host) → AreOf host es n m → n ≤ m → m ≤ length es
    → AreTracksFrom first count es m tracks
AreTracksFrom-others first count es n m tracks host h outside of le within = record {
  count_is = h.count_is;
  at = λ k d lt. IsTrack-others (first + k) host es n m (get_or tracks k d) (other k lt outside) of le within (h.at k d lt);
}
  where
    other : (k : ℕ) → k < count → (host < first) ⊎ (first + count ≤ host) → first + k ≢ host
    other k lt (inl before) = omega arith
    other k lt (inr after) = omega arith

-- one of the hosts went on
pub AreTracksFrom-advance : (first count : ℕ) (es : List Entry) (n m : ℕ) (tracks : List Track) (host p : ℕ) (t : Track) → AreTracksFrom first count es n tracks → first + p ≡ host → p < count → AreOf host es n m → n ≤ m → m ≤ length es
    → IsTrack host es m t → AreTracksFrom first count es m (set tracks p t)
AreTracksFrom-advance first count es n m tracks host p t h place lt of le within is = record {
  count_is = length-set tracks p t ∙ h.count_is;
  at = λ k d few. by k d few (cases_eq k p);
}
  where
    by : (k : ℕ) (d : Track) → k < count → (k ≡ p) ⊎ (k ≢ p) → IsTrack (first + k) es m (get_or (set tracks p t) k d)
    by k d few (inl e) =
        subst (λ j. IsTrack (first + j) es m (get_or (set tracks p t) j d)) (sym e)
        (subst (IsTrack (first + p) es m) (sym (get_or-set_same tracks p t d (let c = h.count_is in omega arith))) (subst (λ x. IsTrack x es m t) (sym place) is))
    by k d few (inr other) =
        subst (IsTrack (first + k) es m) (sym (get_or-set_other tracks p k t d other)) (IsTrack-others (first + k) host es n m (get_or tracks k d) (omega arith) of le within (h.at k d few))

-- the tracks of the next hosts stand after those of the first
pub AreTracksFrom-append : (first i j : ℕ) (es : List Entry) (n : ℕ) (front back : List Track) → AreTracksFrom first i es n front → AreTracksFrom (first + i) j es n back → AreTracksFrom first (i + j) es n (front ++ back)
AreTracksFrom-append first i j es n front back f b = record {
  count_is = omega (arith, length-append front back, f.count_is, b.count_is);
  at = λ k d lt. by k d lt (cases_lt k i);
}
  where
    by : (k : ℕ) (d : Track) → k < i + j → (k < i) ⊎ (i ≤ k) → IsTrack (first + k) es n (get_or (front ++ back) k d)
    by k d lt (inl before) = subst (IsTrack (first + k) es n) (sym (get_or_append_left front back d k (let c = f.count_is in omega arith))) (f.at k d before)
    by k d lt (inr after) =
        let place : first + i + (k - i) ≡ first + k = omega arith in
        subst (IsTrack (first + k) es n) (sym (get_or-append_right front back i k d f.count_is after)) (subst (λ h. IsTrack h es n (get_or back (k - i) d)) place (b.at (k - i) d (omega arith)))

-- the tracks of all hosts
pub AreTracks-all : (count : ℕ) (es : List Entry) (n : ℕ) (tracks : List Track) → count ≡ 128 → AreTracksFrom 0 count es n tracks → AreTracks es n tracks
AreTracks-all count es n tracks all h = record {
  count = h.count_is ∙ all;
  at = λ host d lt. let zero_more : 0 + host ≡ host = omega arith in subst (λ k. IsTrack k es n (get_or tracks host d)) zero_more (h.at host d (omega arith));
}
