-- The stays of a host as they stand now, from its track.
use Rattle.std.proofs.Common.{◌≡◌, ℕ, ◌+◌, ◌-◌, ◌*◌, ◌<◌, ◌≤◌, ◌≤ℤ◌, Bool, true, false, cond, List, [], ◌∷◌, ◌++◌, filter, map, length, get_or, take, drop, reverse, Option, Some, None, unwrap_or, ℤ, pos, refl, sym, ap, subst, ◌∙◌, arith}
use Rattle.std.proofs.lemmas.List.{append-nil, take_all, length-map, at_drop_more, reverse-append, take-append-le, take-append-drop, get_or-map, get_or-reverse}
use Rattle.std.proofs.lemmas.List.Elements.{All-push, filter-append}
use Rattle.std.proofs.lemmas.List.Sums.{sum_by_more_le}
use Rattle.std.proofs.Math.Seq.{take-length}
use Rattle.std.specs.List.{All, IsDistinct}
use Rattle.std.specs.Map.{keys_of}
use Rattle.std.specs.Prelude.{bytes_eq, sum_by}
use Rattle.tally_sessions.specs.declared.entry.Entry.{Entry}
use Rattle.tally_sessions.specs.declared.entry.Stay.{Stay}
use Rattle.tally_sessions.specs.declared.track.ending.Ending.{Ending}
use Rattle.tally_sessions.specs.declared.track.ending.TrackedStay.{TrackedStay}
use Rattle.tally_sessions.specs.declared.track.Track.{Track}
use Rattle.tally_sessions.specs.Hosts.{of_host}
use Rattle.tally_sessions.specs.Stays.{last_time}
use Rattle.tally_sessions.specs.inside.Totals.{seconds_of}
use Rattle.tally_sessions.specs.Totals.{stays_of}
use Rattle.tally_sessions.specs.inside.Track.{ended_sum, line_at, no_line, no_stay, pending_sum, stay_at, stay_now, sum_of, tracked_in, IsTrack}
use Rattle.tally_sessions.specs.inside.Tracking.{clock, completed, tracked_from}
use Rattle.tally_sessions.proofs.track.Forward.{stays_from-tracked}
use Rattle.tally_sessions.proofs.track.PendingSums.{ended_and_pending, lines_sum, now_sum-le, pending_at, seconds_now}
use Rattle.tally_sessions.proofs.track.StayCounts.{length-stays_from}

stay_now-completed : (host : ℕ) (es : List Entry) (now time : ℤ) (t : TrackedStay) → stay_now host es now time t ≡ completed host now time (tracked_in host es t)
stay_now-completed host es now time t = by t.ended
  where
    by : (e : Option Ending) → stay_now host es now time (record t { ended = e }) ≡ completed host now time (tracked_in host es (record t { ended = e }))
    by (Some e) = refl
    by None = refl

map-stay_now : (host : ℕ) (es : List Entry) (now time : ℤ) (ts : List TrackedStay) → map (stay_now host es now time) ts ≡ map (completed host now time) (map (tracked_in host es) ts)
map-stay_now host es now time [] = refl
map-stay_now host es now time (t ∷ ts) =
    ap (λ s. s ∷ map (stay_now host es now time) ts) (stay_now-completed host es now time t)
    ∙ ap (λ ss. completed host now time (tracked_in host es t) ∷ ss) (map-stay_now host es now time ts)

-- the tracked stays are the stays
pub stays_now : (host : ℕ) (es : List Entry) (a : Track) (until : Option ℤ) → IsTrack host es (length es) a → map (stay_now host es a.clock (unwrap_or until a.last)) a.stays.items ≡ stays_of host es until
stays_now host es a until h =
    let all : of_host host (take (length es) es) ≡ of_host host es = ap (of_host host) (take-length es) in
    map-stay_now host es a.clock (unwrap_or until a.last) a.stays.items
    ∙ ap (map (completed host a.clock (unwrap_or until a.last))) (h.stays ∙ ap (tracked_from host []) all)
    ∙ ap (λ (z : ℤ). map (completed host z (unwrap_or until a.last)) (tracked_from host [] (of_host host es))) (h.clock ∙ ap clock all)
    ∙ ap (λ (z : ℤ). map (completed host (clock (of_host host es)) (unwrap_or until z)) (tracked_from host [] (of_host host es))) (h.last ∙ ap (last_time (pos 0)) all)
    ∙ sym (stays_from-tracked host [] (of_host host es) until (pos 0))

-- the sessions are those that have ended and those that are pending
pub seconds_are : (who : Option (List ℕ)) (host : ℕ) (es : List Entry) (a : Track) (until : Option ℤ) → IsTrack host es (length es) a
    → ended_sum who es a.stays.items + pending_sum who es a.clock (unwrap_or until a.last) a.stays.items ≡ seconds_of who (stays_of host es until)
seconds_are who host es a until h =
    ended_and_pending who es a.clock (unwrap_or until a.last) a.stays.items
    ∙ sym (seconds_now who es a.clock (unwrap_or until a.last) host a.stays.items (λ k lt. (h.tracked.at k lt).starts))
    ∙ ap (seconds_of who) (stays_now host es a until h)

-- one stay more
drop_more : (f : TrackedStay → Stay) (ts : List TrackedStay) (i : ℕ) (t : TrackedStay) (d : Stay) → i < length ts → drop i (map f ts) ≡ f (get_or ts i t) ∷ drop (i + 1) (map f ts)
drop_more f ts i t d lt =
    at_drop_more (λ (ss : List Stay). ss) (map f ts) i d (omega (arith, length-map ts f))
    ∙ ap (λ s. s ∷ drop (i + 1) (map f ts)) (get_or-map f ts i t d lt)

-- the stay at a place is one of the host's
pub stay_here : (host : ℕ) (es : List Entry) (a : Track) (until : Option ℤ) (i : ℕ) → IsTrack host es (length es) a → i < length a.stays.items
    → drop i (stays_of host es until) ≡ stay_now host es a.clock (unwrap_or until a.last) (stay_at a.stays.items i) ∷ drop (i + 1) (stays_of host es until)
stay_here host es a until i h lt =
    let f = stay_now host es a.clock (unwrap_or until a.last) in
    subst (λ ss. drop i ss ≡ f (stay_at a.stays.items i) ∷ drop (i + 1) ss) (stays_now host es a until h) (drop_more f a.stays.items i no_stay (f no_stay) lt)

-- as many stays are tracked as the host has
pub same_count : (host : ℕ) (es : List Entry) (a : Track) (until : Option ℤ) → IsTrack host es (length es) a → length (stays_of host es until) ≡ length a.stays.items
same_count host es a until h = sym (ap length (stays_now host es a until h)) ∙ length-map a.stays.items (stay_now host es a.clock (unwrap_or until a.last))

pub count_now : (host : ℕ) (es : List Entry) (a : Track) → IsTrack host es (length es) a → length a.stays.items ≤ length (of_host host es)
count_now host es a h = omega (arith, same_count host es a None h, length-stays_from host [] (of_host host es) None)

-- the stay at a place, counted from the latest back
pub latest_here : (host : ℕ) (es : List Entry) (a : Track) (until : Option ℤ) (k : ℕ) (d : Stay) → IsTrack host es (length es) a → k < length a.stays.items
    → get_or (reverse (stays_of host es until)) k d ≡ stay_now host es a.clock (unwrap_or until a.last) (stay_at a.stays.items (length a.stays.items - k - 1))
latest_here host es a until k d h lt =
    let f = stay_now host es a.clock (unwrap_or until a.last) in
    let stays = stays_of host es until in
    let i = length a.stays.items - k - 1 in
    let count = same_count host es a until h in
    let place : length stays - 1 - k ≡ i = omega (arith, count) in
    get_or-reverse stays k d (omega (arith, count, lt))
    ∙ ap (λ j. get_or stays j d) place
    ∙ ap (λ ss. get_or ss i d) (sym (stays_now host es a until h))
    ∙ get_or-map f a.stays.items i no_stay d (omega (arith, lt))

-- a stay, where it is shown
abbrev pub one_if : (Stay → Bool) → Stay → List Stay
one_if p s = cond (p s) (s ∷ []) []

pub one_at_most : (p : Stay → Bool) (s : Stay) → length (one_if p s) ≤ 1
one_at_most p s = by (p s)
  where
    by : (b : Bool) → length (cond b (s ∷ []) []) ≤ 1
    by true = omega arith
    by false = omega arith

pub All-one_if : (P : Stay → Type 0) (p : Stay → Bool) (found : List Stay) (s : Stay) → All P found → P s → All P (found ++ one_if p s)
All-one_if P p found s all h = by (p s)
  where
    by : (b : Bool) → All P (found ++ cond b (s ∷ []) [])
    by true = All-push P found s all h
    by false = subst (All P) (sym (append-nil found)) all

-- one stay further back, which is shown or not
pub latest_more : (p : Stay → Bool) (f : TrackedStay → Stay) (ts : List TrackedStay) (i : ℕ) (t : TrackedStay) (d : Stay) → i < length ts
    → reverse (filter p (drop i (map f ts))) ≡ reverse (filter p (drop (i + 1) (map f ts))) ++ cond (p (f (get_or ts i t))) (f (get_or ts i t) ∷ []) []
latest_more p f ts i t d lt = ap (λ ss. reverse (filter p ss)) (drop_more f ts i t d lt) ∙ by (p (f (get_or ts i t)))
  where
    left : List Stay
    left = filter p (drop (i + 1) (map f ts))

    by : (b : Bool) → reverse (cond b (f (get_or ts i t) ∷ left) left) ≡ reverse left ++ cond b (f (get_or ts i t) ∷ []) []
    by true = reverse-append (f (get_or ts i t) ∷ []) left
    by false = sym (append-nil (reverse left))

-- no stay is left, or the limit is reached
pub latest_all : (p : Stay → Bool) (all found : List Stay) (i limit : ℕ) → found ≡ reverse (filter p (drop i all)) → i ≡ 0 → length found ≤ limit → found ≡ take limit (reverse (filter p all))
latest_all p all found i limit e zero few = sym (take_all limit found few) ∙ ap (take limit) (e ∙ ap (λ k. reverse (filter p (drop k all))) zero)

pub latest_limit : (p : Stay → Bool) (all found : List Stay) (i limit : ℕ) → found ≡ reverse (filter p (drop i all)) → length found ≡ limit → found ≡ take limit (reverse (filter p all))
latest_limit p all found i limit e n =
    sym (
    ap (λ ss. take limit (reverse (filter p ss))) (sym (take-append-drop i all))
    ∙ ap (λ ss. take limit (reverse ss)) (filter-append p (take i all) (drop i all))
    ∙ ap (take limit) (reverse-append (filter p (take i all)) (filter p (drop i all)))
    ∙ ap (λ ss. take limit (ss ++ reverse (filter p (take i all)))) (sym e)
    ∙ take-append-le limit found (reverse (filter p (take i all))) (omega arith)
    ∙ take_all limit found (omega arith)
    )

-- the length of the stays that are sessions is bounded by the number of records
pub seconds_fit : (who : Option (List ℕ)) (host : ℕ) (es : List Entry) (a : Track) (until : Option ℤ) → IsTrack host es (length es) a → unwrap_or until a.last ≤ℤ pos 2147483647
    → seconds_of who (stays_of host es until) ≤ 4294967295 * length (of_host host es)
seconds_fit who host es a until h last =
    let few = now_sum-le who es a.clock (unwrap_or until a.last) a.stays.items last h.sums.fits in
    omega (arith, few, seconds_are who host es a until h, ended_and_pending who es a.clock (unwrap_or until a.last) a.stays.items, count_now host es a h)

-- the sum of the sessions that have ended, and of those that the first lines lead to
abbrev pub sum_so_far : Option (List ℕ) → List Entry → ℤ → Track → ℕ → ℕ
sum_so_far who es time a k = sum_of a.sums who + sum_by (pending_at who es a.clock time a.stays.items) (take k a.lines.entries)

-- after the last line it is that of all sessions
pub sum_at_end : (who : Option (List ℕ)) (host : ℕ) (es : List Entry) (a : Track) (until : Option ℤ) (k : ℕ) → IsTrack host es (length es) a → IsDistinct bytes_eq (keys_of a.lines.entries) → length a.lines.entries ≤ k
    → sum_so_far who es (unwrap_or until a.last) a k ≡ seconds_of who (stays_of host es until)
sum_at_end who host es a until k h distinct all =
    let time = unwrap_or until a.last in
    omega (
      arith,
      h.sums.at who,
      ap (sum_by (pending_at who es a.clock time a.stays.items)) (take_all k a.lines.entries all),
      lines_sum who es a.clock time (length es) a.lines.entries a.swept a.stays.items h.tracked distinct,
      seconds_are who host es a until h,
    )

-- and before, with one line more, it is no more
pub sum_within : (who : Option (List ℕ)) (host : ℕ) (es : List Entry) (a : Track) (until : Option ℤ) (k : ℕ) → IsTrack host es (length es) a → IsDistinct bytes_eq (keys_of a.lines.entries) → k < length a.lines.entries
    → sum_so_far who es (unwrap_or until a.last) a k + pending_at who es a.clock (unwrap_or until a.last) a.stays.items (line_at a.lines.entries k) ≤ seconds_of who (stays_of host es until)
sum_within who host es a until k h distinct lt =
    let f = pending_at who es a.clock (unwrap_or until a.last) a.stays.items in
    omega (arith, sum_at_end who host es a until (length a.lines.entries) h distinct (omega arith), ap (sum_by f) (take_all (length a.lines.entries) a.lines.entries (omega arith)), sum_by_more_le f a.lines.entries k no_line lt)
