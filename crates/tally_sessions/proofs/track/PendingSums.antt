-- The sessions of a host: those that have ended, and those that are pending.
use Rattle.std.proofs.Common.{◌≡◌, ◌⊎◌, inl, inr, ℕ, suc, ◌+◌, ◌*◌, ◌<◌, ◌≤◌, ◌&&◌, Bool, true, false, cond, List, [], ◌∷◌, length, get_or, map, filter, not, is_some, Option, Some, None, ℤ, pos, neg_ℤ, ◌+ℤ◌, ◌-ℤ◌, ◌≤ℤ◌, refl, sym, ap, subst, ◌∙◌, arith}
use Rattle.std.proofs.lemmas.Bool.{cases_lt, false≢true}
use Rattle.std.proofs.lemmas.Int.{ints, clamps}
use Rattle.std.proofs.lemmas.List.{get_or_default, get_or-map, length-map}
use Rattle.std.proofs.lemmas.List.Sums.{sum_by-cons, sum_by-le, sum-map}
use Rattle.std.proofs.lemmas.Option.{slice_get-get_or}
use Rattle.std.proofs.Math.ListN.{get_or-eq_default}
use Rattle.std.specs.List.{IsDistinct}
use Rattle.std.specs.Map.{keys_of, lookup}
use Rattle.std.specs.Option.{option_map_or}
use Rattle.std.specs.Prelude.{bytes_eq, slice_get, sum_by}
use Rattle.tally_records.specs.declared.login.LoginRecord.{LoginRecord}
use Rattle.tally_records.specs.declared.login.Event.{Event}
use Rattle.tally_records.specs.declared.login.Event.TheVariants.{Login, Logout, Boot, Down, OldTime, NewTime, Nothing}
use Rattle.tally_records.specs.Event.{event_of}
use Rattle.tally_records.proofs.Members.{Member}
use Rattle.tally_sessions.specs.declared.entry.Entry.{Entry}
use Rattle.tally_sessions.specs.declared.entry.Stay.{Stay}
use Rattle.tally_sessions.specs.declared.track.ending.Ending.{Ending}
use Rattle.tally_sessions.specs.declared.track.ending.TrackedStay.{TrackedStay}
use Rattle.tally_clock.specs.Days.{seconds_between}
use Rattle.tally_sessions.specs.Stays.{clamped, is_boot_event, starts_stay}
use Rattle.tally_sessions.specs.inside.Track.{length_of, is_login_event, no_line, no_stay, stay_at, start_of, still_of, ending_now, stay_now, counts, ended_length, ended_sum, pending_length, pending_sum, AreTracked, LengthFits}
use Rattle.tally_sessions.specs.inside.Totals.{counted, seconds_of}
use Rattle.tally_sessions.proofs.track.TrackSteps.{is_login_of_event}
use Rattle.tally_sessions.proofs.track.Lengths.{seconds_fit}
use Rattle.tally_sessions.proofs.track.LineSums.{lookup_of_member, sum_same, table_sum}

-- a start that counts is a login
login_of : (w : Option (List ℕ)) (r : LoginRecord) → counts w r ≡ true → event_of r ≡ Login
login_of None r h = is_login_of_event (event_of r) h
login_of (Some user) r h = is_login_of_event (event_of r) (first (is_login_event (event_of r)) (bytes_eq r.user user) h)
  where
    first : (a b : Bool) → (a && b) ≡ true → a ≡ true
    first true b h = refl
    first false b h = absurd (false≢true h)

module _ (who : Option (List ℕ)) (es : List Entry) (now time : ℤ) where
  -- the length so far of a stay whose start counts
  abbrev pub now_length : TrackedStay → ℕ
  now_length t = cond (counts who (start_of es t)) (length_of (ending_now es now time t)) 0

  -- it has ended, or it is pending
  ended_or_pending : (t : TrackedStay) → ended_length who es t + pending_length who es now time t ≡ now_length t
  ended_or_pending t = by (counts who (start_of es t)) t.ended
    where
      by : (b : Bool) (o : Option Ending) → cond b (option_map_or length_of o 0) 0 + cond (not (is_some o) && b) (length_of (still_of (start_of es t) (now -ℤ t.clock_at) time)) 0
          ≡ cond b (length_of (ending_now es now time (record t { ended = o }))) 0
      by true (Some e) = omega arith
      by true None = omega arith
      by false (Some e) = omega arith
      by false None = omega arith

  pub ended_and_pending : (ts : List TrackedStay) → ended_sum who es ts + pending_sum who es now time ts ≡ sum_by now_length ts
  ended_and_pending [] = refl
  ended_and_pending (t ∷ ts) =
      let one = ended_or_pending t in
      let rest = ended_and_pending ts in
      let a = sum_by-cons (ended_length who es) t ts in
      let b = sum_by-cons (pending_length who es now time) t ts in
      let s = sum_by-cons now_length t ts in
      omega (arith, one, rest, a, b, s)

  same_test : (host : ℕ) (t : TrackedStay) → starts_stay (event_of (start_of es t)) ≡ true → (w : Option (List ℕ)) → counted w (stay_now host es now time t) ≡ counts w (start_of es t)
  same_test host t starts = by
    where
      boot_or_login : (e : Event) → starts_stay e ≡ true → not (is_boot_event e) ≡ is_login_event e
      boot_or_login Login h = refl
      boot_or_login Boot h = refl
      boot_or_login Logout h = absurd (false≢true h)
      boot_or_login Down h = absurd (false≢true h)
      boot_or_login OldTime h = absurd (false≢true h)
      boot_or_login NewTime h = absurd (false≢true h)
      boot_or_login Nothing h = absurd (false≢true h)

      by : (w : Option (List ℕ)) → counted w (stay_now host es now time t) ≡ counts w (start_of es t)
      by None = boot_or_login (event_of (start_of es t)) starts
      by (Some user) = ap (λ b. b && bytes_eq (start_of es t).user user) (boot_or_login (event_of (start_of es t)) starts)

  -- the sessions among the stays as they stand
  pub seconds_now : (host : ℕ) (ts : List TrackedStay) → ((k : ℕ) → k < length ts → starts_stay (event_of (start_of es (stay_at ts k))) ≡ true) → seconds_of who (map (stay_now host es now time) ts) ≡ sum_by now_length ts
  seconds_now host [] starts = refl
  seconds_now host (t ∷ ts) starts =
      one (counted who (stay_now host es now time t)) (counts who (start_of es t)) (same_test host t (starts 0 (omega arith)) who) (filter (counted who) (map (stay_now host es now time) ts)) (sum_by now_length ts) (seconds_now host ts (λ k lt. starts (suc k) (omega arith)))
      ∙ sym (sum_by-cons now_length t ts)
    where
      one : (b d : Bool) → b ≡ d → (ss : List Stay) (n : ℕ) → sum_by (λ (s : Stay). s.length) ss ≡ n
          → sum_by (λ (s : Stay). s.length) (cond b (stay_now host es now time t ∷ ss) ss) ≡ cond d (length_of (ending_now es now time t)) 0 + n
      one true true e ss n h = sum_by-cons (λ (s : Stay). s.length) (stay_now host es now time t) ss ∙ ap (λ m. (length_of (ending_now es now time t)) + m) h
      one false false e ss n h = h ∙ (let z : n ≡ 0 + n = omega arith in z)
      one true false e ss n h = absurd (false≢true (sym e))
      one false true e ss n h = absurd (false≢true e)

  -- a length so far is below 2^32
  seconds_few : (begin : ℤ) → time ≤ℤ pos 2147483647 → seconds_between (clamped begin) time ≤ 4294967295
  seconds_few begin le =
      let low : neg_ℤ (pos 2147483648) ≤ℤ clamped begin = at_least begin in
      let fits = seconds_fit (time -ℤ clamped begin) (omega (arith, ints)) in omega arith
    where
      at_least : (z : ℤ) → neg_ℤ (pos 2147483648) ≤ℤ clamped z
      at_least z = grind (arith, ints, clamps)

  now_few : (t : TrackedStay) → time ≤ℤ pos 2147483647 → LengthFits t → now_length t ≤ 4294967295
  now_few t le fits = by (counts who (start_of es t)) t.ended fits
    where
      by : (b : Bool) (o : Option Ending) → ((e : Ending) → o ≡ Some e → length_of e < 4294967296) → cond b (length_of (ending_now es now time (record t { ended = o }))) 0 ≤ 4294967295
      by false o h = omega arith
      by true (Some e) h = let l = h e refl in omega arith
      by true None h = seconds_few ((start_of es t).time +ℤ (now -ℤ t.clock_at)) le

  pub now_sum-le : (ts : List TrackedStay) → time ≤ℤ pos 2147483647 → ((k : ℕ) → k < length ts → LengthFits (stay_at ts k)) → sum_by now_length ts ≤ length ts * 4294967295
  now_sum-le ts le fits =
      sum_by-le now_length 4294967295 ts (λ k d lt. subst (λ t. now_length t ≤ 4294967295) (get_or_default ts k no_stay d lt) (now_few (stay_at ts k) le (fits k lt)))

  -- what is pending is at the places that lines lead to
  pub lines_sum : (n : ℕ) (lines : List (List ℕ × ℕ)) (swept : ℕ) (ts : List TrackedStay) → AreTracked es n lines swept ts → IsDistinct bytes_eq (keys_of lines)
      → sum_by (λ (e : List ℕ × ℕ). pending_length who es now time (stay_at ts e.1)) lines ≡ pending_sum who es now time ts
  lines_sum n lines swept ts h distinct =
      let f = pending_length who es now time in
      let at : (e : List ℕ × ℕ) → Member e lines → lookup (bytes_eq e.0) lines ≡ Some e.1 = λ e m. lookup_of_member lines e distinct m in
      let xs : List ℕ = map f ts in
      sum_same (λ (e : List ℕ × ℕ). f (stay_at ts e.1)) (λ (e : List ℕ × ℕ). get_or xs e.1 0) lines (λ e m. sym (get_or-map f ts e.1 no_stay 0 (h.on e.0 e.1 (at e m)).within))
      ∙ table_sum (λ k. (start_of es (stay_at ts k)).line) xs lines distinct
      (λ e m. let on = h.on e.0 e.1 (at e m) in let within = on.within in (omega (arith, length-map ts f), on.same))
      (λ k lt. by_place k lt (cases_within k))
      ∙ sum_of_map f ts
    where
      sum_of_map : (g : TrackedStay → ℕ) (us : List TrackedStay) → sum_by (λ (x : ℕ). x) (map g us) ≡ sum_by g us
      sum_of_map g us = sum-map g us

      cases_within : (k : ℕ) → (k < length ts) ⊎ (length ts ≤ k)
      cases_within k = cases_lt k (length ts)

      pending_found : (t : TrackedStay) (k : ℕ) → (t.ended ≡ None → event_of (start_of es t) ≡ Login → lookup (bytes_eq (start_of es t).line) lines ≡ Some k) → 0 < pending_length who es now time t → lookup (bytes_eq (start_of es t).line) lines ≡ Some k
      pending_found t k found lt = by t.ended refl (counts who (start_of es t)) refl lt
        where
          by : (o : Option Ending) → t.ended ≡ o → (b : Bool) → counts who (start_of es t) ≡ b → 0 < cond (not (is_some o) && b) (length_of (still_of (start_of es t) (now -ℤ t.clock_at) time)) 0 → lookup (bytes_eq (start_of es t).line) lines ≡ Some k
          by (Some e) i b j l = absurd (omega (arith, l))
          by None i false j l = absurd (omega (arith, l))
          by None i true j l = found i (login_of who (start_of es t) j)

      by_place : (k : ℕ) → 0 < get_or (map (pending_length who es now time) ts) k 0 → (k < length ts) ⊎ (length ts ≤ k) → lookup (bytes_eq (start_of es (stay_at ts k)).line) lines ≡ Some k
      by_place k lt (inl within) =
          let old = h.at k within in
          pending_found (stay_at ts k) k old.found (subst (λ m. 0 < m) (get_or-map (pending_length who es now time) ts k no_stay 0 within) lt)
      by_place k lt (inr past) = absurd (let none : get_or (map (pending_length who es now time) ts) k 0 ≡ 0 = past_end (map (pending_length who es now time) ts) k (omega (arith, length-map ts (pending_length who es now time))) in omega arith)
        where
          past_end : (ms : List ℕ) (j : ℕ) → length ms ≤ j → get_or ms j 0 ≡ 0
          past_end ms j le = get_or-eq_default ms 0 le

-- the length so far of the stay that a line leads to, where it counts and is pending
abbrev pub pending_at : Option (List ℕ) → List Entry → ℤ → ℤ → List TrackedStay → List ℕ × ℕ → ℕ
pending_at who es now time stays e = pending_length who es now time (stay_at stays e.1)

-- the stay that a line leads to
pub line_within : (es : List Entry) (n : ℕ) (lines : List (List ℕ × ℕ)) (swept : ℕ) (stays : List TrackedStay) (k i : ℕ) → AreTracked es n lines swept stays → k < length lines
    → ((e : List ℕ × ℕ) → slice_get lines k ≡ Some e → lookup (bytes_eq e.0) lines ≡ Some i) → i < length stays
line_within es n lines swept stays k i h lt found = (h.on _ _ (found (get_or lines k no_line) (slice_get-get_or lines k no_line lt))).within

-- its length so far, at the place and the time that were read
pub pending_read : (who : Option (List ℕ)) (es : List Entry) (now read time : ℤ) (stays : List TrackedStay) (e : List ℕ × ℕ) (i n : ℕ) → n ≡ pending_length who es now read (stay_at stays i) → read ≡ time → i ≡ e.1
    → n ≡ pending_at who es now time stays e
pending_read who es now read time stays e i n is times place = is ∙ (λ j. pending_length who es now (times j) (stay_at stays (place j)))
