-- The tracks of all hosts.
use Rattle.std.proofs.Common.{◌≡◌, ◌≢◌, ◌⊎◌, inl, inr, ℕ, zero, suc, ◌+◌, ◌-◌, ◌<◌, ◌≤◌, List, [], ◌∷◌, map, length, get_or, set, take, pos, refl, sym, ap, ◌∙◌, arith, subst}
use Rattle.std.proofs.lemmas.Bool.{cases_eq}
use Rattle.std.proofs.lemmas.List.{length-set, get_or-take, get_or-set_same, get_or-set_other}
use Rattle.std.proofs.lemmas.List.Sums.{sum-map}
use Rattle.std.specs.Map.{lookup}
use Rattle.std.specs.Option.{option_map, option_map_or}
use Rattle.std.specs.Prelude.{bytes_eq, slice_get, cond, sum, sum_by}
use Rattle.tally_records.specs.declared.login.LoginRecord.{LoginRecord}
use Rattle.tally_records.specs.Event.{event_of}
use Rattle.tally_sessions.specs.declared.entry.Entry.{Entry}
use Rattle.tally_sessions.specs.declared.track.ended.EndedSums.{EndedSums}
use Rattle.tally_sessions.specs.declared.track.ending.TrackedStay.{TrackedStay}
use Rattle.tally_sessions.specs.declared.track.Track.{Track}
use Rattle.tally_sessions.specs.Clock.{pending_old_time}
use Rattle.tally_sessions.specs.Hosts.{of_host}
use Rattle.tally_sessions.specs.inside.Entries.{AreOf, no_entry}
use Rattle.tally_sessions.specs.inside.Kept.{AreTracks}
use Rattle.tally_sessions.specs.Stays.{starts_stay, last_time}
use Rattle.tally_sessions.specs.inside.Numbers.{StandsAt}
use Rattle.tally_sessions.specs.inside.Track.{length_of, no_stay, stay_at, start_of, ended_with, tracked_in, counts, ended_length, AreTracked, HasSums, IsTrack, IsWithin}
use Rattle.tally_sessions.specs.inside.Tracking.{Tracked, clock, tracked_from}
use Rattle.tally_sessions.proofs.track.EndedSteps.{HasSums-same}
use Rattle.tally_sessions.proofs.sessions.HostSteps.{of_host-take_other}
use Rattle.tally_sessions.proofs.track.TrackedAdvance.{IsWithin-all}

map-equal : {X Y : Type 0} (f g : X → Y) (d : X) (xs : List X) → ((k : ℕ) → k < length xs → f (get_or xs k d) ≡ g (get_or xs k d)) → map f xs ≡ map g xs
map-equal f g d [] h = refl
map-equal f g d (x ∷ xs) h = ap (λ y. y ∷ map f xs) (h 0 (omega arith)) ∙ ap (λ ys. g x ∷ ys) (map-equal f g d xs (λ k lt. h (suc k) (omega arith)))

sum_equal : {X : Type 0} (f g : X → ℕ) (d : X) (xs : List X) → ((k : ℕ) → k < length xs → f (get_or xs k d) ≡ g (get_or xs k d)) → sum_by f xs ≡ sum_by g xs
sum_equal f g d xs h = sym (sum-map f xs) ∙ ap sum (map-equal f g d xs h) ∙ sum-map g xs

-- a track that was given room
pub IsTrack-reserved : (host : ℕ) (es : List Entry) (n : ℕ) (a b : Track) → IsTrack host es n a → b.stays.items ≡ a.stays.items → b.lines.entries ≡ a.lines.entries → b.sums.all ≡ a.sums.all → b.sums.users.entries ≡ a.sums.users.entries → b ≡ record a { stays = b.stays; lines = b.lines; sums = b.sums } → IsTrack host es n b
IsTrack-reserved host es n a b h stays lines sums users rest =
    let clock : b.clock ≡ a.clock = ap (λ (t : Track). t.clock) rest in
    let swept : b.swept ≡ a.swept = ap (λ (t : Track). t.swept) rest in record {
      stays = ap (map (tracked_in host es)) stays ∙ h.stays;
      clock = clock ∙ h.clock;
      moved = subst (IsWithin n) (sym clock) h.moved;
      old_time = ap (λ (t : Track). t.old_time) rest ∙ h.old_time;
      first = ap (λ (t : Track). t.first) rest ∙ h.first;
      last = ap (λ (t : Track). t.last) rest ∙ h.last;
      swept = let l = ap length stays in let s = h.swept in omega arith;
      tracked =
          subst (λ k. AreTracked es n b.lines.entries k b.stays.items) (sym swept)
          (subst (λ ts. AreTracked es n b.lines.entries a.swept ts) (sym stays)
          (subst (λ ls. AreTracked es n ls a.swept a.stays.items) (sym lines) h.tracked));
      count = let l = ap length stays in let c = h.count in omega arith;
      sums = HasSums-same es a.sums b.sums b.stays.items sums users (subst (HasSums es a.sums) (sym stays) h.sums);
    }

-- a track looks at the stored entries alone
start_same : (es es' : List Entry) (n : ℕ) (t : TrackedStay) → take n es' ≡ take n es → t.entry < n → start_of es' t ≡ start_of es t
start_same es es' n t same lt =
    ap (λ (e : Entry). e.item) (sym (get_or-take n es' t.entry no_entry lt) ∙ ap (λ xs. get_or xs t.entry no_entry) same ∙ get_or-take n es t.entry no_entry lt)

AreTracked-take : (es es' : List Entry) (n : ℕ) (lines : List (List ℕ × ℕ)) (swept : ℕ) (stays : List TrackedStay) → take n es' ≡ take n es → AreTracked es n lines swept stays → AreTracked es' n lines swept stays
AreTracked-take es es' n lines swept stays same h = record {
  at = λ i lt.
      let old = h.at i lt in
      let start = start_same es es' n (stay_at stays i) same old.placed in record {
        placed = old.placed;
        time = old.time ∙ sym (ap (λ (r : LoginRecord). r.time) start);
        starts = ap (λ (r : LoginRecord). starts_stay (event_of r)) start ∙ old.starts;
        moved = old.moved;
        ended = old.ended;
        found = λ none login. ap (λ (r : LoginRecord). lookup (bytes_eq r.line) lines) start ∙ old.found none (ap event_of (sym start) ∙ login);
      };
  on = λ line i found.
      let old = h.on line i found in
      let start = start_same es es' n (stay_at stays i) same (h.at i old.within).placed in record {
        within = old.within;
        login = ap event_of start ∙ old.login;
        same = ap (λ (r : LoginRecord). r.line) start ∙ old.same;
      };
}

HasSums-take : (es es' : List Entry) (n : ℕ) (sums : EndedSums) (lines : List (List ℕ × ℕ)) (swept : ℕ) (stays : List TrackedStay) → take n es' ≡ take n es → AreTracked es n lines swept stays → HasSums es sums stays → HasSums es' sums stays
HasSums-take es es' n sums lines swept stays same tracked h = record {
  at = λ who. h.at who ∙ sum_equal (ended_length who es) (ended_length who es') no_stay stays
      (λ k lt. ap (λ (r : LoginRecord). cond (counts who r) (option_map_or length_of (stay_at stays k).ended 0) 0) (sym (start_same es es' n (stay_at stays k) same (tracked.at k lt).placed)));
  entered = λ k lt.
      let start = start_same es es' n (stay_at stays k) same (tracked.at k lt).placed in record {
        login = λ login. subst (λ (r : LoginRecord). StandsAt sums.users (stay_at stays k).user r.user) (sym start) ((h.entered k lt).login (ap event_of (sym start) ∙ login));
        boot = λ boot. (h.entered k lt).boot (ap event_of (sym start) ∙ boot);
      };
  fits = h.fits;
  few = h.few;
}

pub IsTrack-take : (host : ℕ) (es es' : List Entry) (n : ℕ) (a : Track) → take n es' ≡ take n es → IsTrack host es n a → IsTrack host es' n a
IsTrack-take host es es' n a same h =
    let rs : of_host host (take n es) ≡ of_host host (take n es') = ap (of_host host) (sym same) in record {
      stays =
          map-equal (tracked_in host es') (tracked_in host es) no_stay a.stays.items
          (λ k lt. ap (λ (r : LoginRecord). kept r (stay_at a.stays.items k)) (start_same es es' n (stay_at a.stays.items k) same (h.tracked.at k lt).placed))
          ∙ h.stays ∙ ap (tracked_from host []) rs;
      clock = h.clock ∙ ap clock rs;
      moved = h.moved;
      old_time = h.old_time ∙ ap pending_old_time rs;
      first = h.first ∙ ap (λ (ps : List LoginRecord). option_map (λ (r : LoginRecord). r.time) (slice_get ps 0)) rs;
      last = h.last ∙ ap (last_time (pos 0)) rs;
      swept = h.swept;
      tracked = AreTracked-take es es' n a.lines.entries a.swept a.stays.items same h.tracked;
      count = h.count;
      sums = HasSums-take es es' n a.sums a.lines.entries a.swept a.stays.items same h.tracked h.sums;
    }
  where
    kept : LoginRecord → TrackedStay → Tracked
    kept r t = record { start = r; clock_at = t.clock_at; ended = option_map (ended_with host r) t.ended }

-- entries of another host
of_host-others : (h host : ℕ) (es : List Entry) (n k : ℕ) → h ≢ host → AreOf host es n (n + k) → n + k ≤ length es → of_host h (take (n + k) es) ≡ of_host h (take n es)
of_host-others h host es n zero other of le = ap (λ j. of_host h (take j es)) (omega arith)
of_host-others h host es n (suc k) other of le =
    ap (λ j. of_host h (take j es)) (omega arith)
    ∙ of_host-take_other h es (n + k) (omega arith) (λ e. other (sym e ∙ of (n + k) (omega arith) (omega arith)))
    ∙ of_host-others h host es n k other (λ j from lt. of j from (omega arith)) (omega arith)

pub IsTrack-others : (h host : ℕ) (es : List Entry) (n m : ℕ) (a : Track) → h ≢ host → AreOf host es n m → n ≤ m → m ≤ length es → IsTrack h es n a → IsTrack h es m a
IsTrack-others h host es n m a other of le within t =
    let place : n + (m - n) ≡ m = omega arith in
    let rs : of_host h (take n es) ≡ of_host h (take m es) = sym (of_host-others h host es n (m - n) other (λ k from lt. of k from (omega arith)) (omega arith)) ∙ ap (λ j. of_host h (take j es)) place in record {
      stays = t.stays ∙ ap (tracked_from h []) rs;
      clock = t.clock ∙ ap clock rs;
      moved = IsWithin-all n m a.clock le t.moved;
      old_time = t.old_time ∙ ap pending_old_time rs;
      first = t.first ∙ ap (λ (ps : List LoginRecord). option_map (λ (r : LoginRecord). r.time) (slice_get ps 0)) rs;
      last = t.last ∙ ap (last_time (pos 0)) rs;
      swept = t.swept;
      tracked = record {
        at = λ i lt.
            let old = t.tracked.at i lt in record {
              placed = let p = old.placed in omega arith;
              time = old.time;
              starts = old.starts;
              moved = IsWithin-all n m _ le old.moved;
              ended = old.ended;
              found = old.found;
            };
        on = t.tracked.on;
      };
      count = let c = t.count in omega arith;
      sums = t.sums;
    }

-- one track is replaced
pub AreTracks-set : (es : List Entry) (n : ℕ) (tracks : List Track) (host : ℕ) (t : Track) → AreTracks es n tracks → host < 128 → IsTrack host es n t → AreTracks es n (set tracks host t)
AreTracks-set es n tracks host t h lt is = record {
  count = length-set tracks host t ∙ h.count;
  at = λ k d within. by k d within (cases_eq k host);
}
  where
    by : (k : ℕ) (d : Track) → k < 128 → (k ≡ host) ⊎ (k ≢ host) → IsTrack k es n (get_or (set tracks host t) k d)
    by k d within (inl e) = subst (λ j. IsTrack j es n (get_or (set tracks host t) j d)) (sym e) (subst (IsTrack host es n) (sym (get_or-set_same tracks host t d (let c = h.count in omega arith))) is)
    by k d within (inr other) = subst (IsTrack k es n) (sym (get_or-set_other tracks host k t d other)) (h.at k d within)

pub AreTracks-take : (es es' : List Entry) (n : ℕ) (tracks : List Track) → take n es' ≡ take n es → AreTracks es n tracks → AreTracks es' n tracks
AreTracks-take es es' n tracks same h = record { count = h.count; at = λ host d lt. IsTrack-take host es es' n (get_or tracks host d) same (h.at host d lt) }

-- one host went on
pub AreTracks-advance : (es : List Entry) (n m : ℕ) (tracks : List Track) (host : ℕ) (t : Track) → AreTracks es n tracks → host < 128 → AreOf host es n m → n ≤ m → m ≤ length es → IsTrack host es m t → AreTracks es m (set tracks host t)
AreTracks-advance es n m tracks host t h lt of le within is = record {
  count = length-set tracks host t ∙ h.count;
  at = λ k d few. by k d few (cases_eq k host);
}
  where
    by : (k : ℕ) (d : Track) → k < 128 → (k ≡ host) ⊎ (k ≢ host) → IsTrack k es m (get_or (set tracks host t) k d)
    by k d few (inl e) = subst (λ j. IsTrack j es m (get_or (set tracks host t) j d)) (sym e) (subst (IsTrack host es m) (sym (get_or-set_same tracks host t d (let c = h.count in omega arith))) is)
    by k d few (inr other) = subst (IsTrack k es m) (sym (get_or-set_other tracks host k t d other)) (IsTrack-others k host es n m (get_or tracks k d) other of le within (h.at k d few))
