-- The seconds of all sessions: of those that have ended, and of those that are open.
use Rattle.std.proofs.Common.{◌≡◌, ℕ, ◌+◌, ◌&&◌, Bool, true, false, cond, List, [], ◌∷◌, ◌++◌, map, filter, Option, Some, None, unwrap_or, not, ℤ, pos, refl, sym, ap, ◌∙◌, arith}
use Rattle.std.proofs.lemmas.List.Sums.{sum_by-cons}
use Rattle.std.specs.Prelude.{bytes_eq, sum_by}
use Rattle.tally_records.specs.declared.login.LoginRecord.{LoginRecord}
use Rattle.tally_records.specs.declared.login.Event.{Event}
use Rattle.tally_records.specs.declared.login.Event.TheVariants.{Login, Logout, Boot, Down, OldTime, NewTime, Nothing}
use Rattle.tally_records.specs.Event.{event_of}
use Rattle.tally_sessions.specs.declared.entry.Stay.{Stay}
use Rattle.tally_sessions.specs.Stays.{first_end, is_boot_event, last_time, starts_stay, stay_of, stays_from}
use Rattle.tally_sessions.specs.declared.connect_sums.running.Running.{Running}
use Rattle.tally_sessions.specs.inside.Ended.{Seconds}
use Rattle.tally_sessions.specs.inside.Running.{counted_in}
use Rattle.tally_sessions.specs.inside.Slots.{weight_in}
use Rattle.tally_sessions.specs.inside.Totals.{counted, seconds_of}
use Rattle.tally_sessions.specs.inside.Track.{counts, covers, is_login_event, sum_of as kept_sum}
use Rattle.tally_sessions.specs.inside.Tracking.{Tracked, clock, completed, completed_if, ended_of, tracked_from, tracked_of}
use Rattle.tally_sessions.proofs.connect_sums.SlotLemmas.{sum-seen, weight-opens}
use Rattle.tally_sessions.proofs.track.Forward.{stays_from-tracked}
use Rattle.tally_sessions.specs.Opens.{ended_seconds, open_of, seconds_at, weight_of}
use Rattle.tally_sessions.specs.ConnectSums.{Counted, IsCountOf, sum_of}

-- a sum over those that pass
filter-cons : (p : Stay → Bool) (s : Stay) (ss : List Stay) → sum_by (λ (r : Stay). r.length) (filter p (s ∷ ss)) ≡ cond (p s) s.length 0 + sum_by (λ (r : Stay). r.length) (filter p ss)
filter-cons p s ss = by (p s)
  where
    by : (b : Bool) → sum_by (λ (r : Stay). r.length) (cond b (s ∷ filter p ss) (filter p ss)) ≡ cond b s.length 0 + sum_by (λ (r : Stay). r.length) (filter p ss)
    by true = sum_by-cons (λ (r : Stay). r.length) s (filter p ss)
    by false = omega arith

module _ (who : Option (List ℕ)) (now time : ℤ) where
  -- a stay's seconds, where it is one of these sessions, are those of an ended session or of an open one
  one-now : (before : List LoginRecord) (r : LoginRecord) (after : List LoginRecord) → starts_stay (event_of r) ≡ true
      → cond (counted who (completed 0 now time (tracked_of 0 before r after))) (completed 0 now time (tracked_of 0 before r after)).length 0
      ≡ ended_seconds who (tracked_of 0 before r after) + weight_of (seconds_at who now time) (tracked_of 0 before r after)
  one-now before r after starts = by (first_end r after)
    where
      at : Option Stay → Tracked
      at o = record { start = r; clock_at = clock (before ++ r ∷ []); ended = o }

      chosen : Event → Option (List ℕ) → Bool
      chosen e None = not (is_boot_event e)
      chosen e (Some user) = not (is_boot_event e) && bytes_eq r.user user

      counted_by : Event → Option (List ℕ) → Bool
      counted_by e None = is_login_event e
      counted_by e (Some user) = is_login_event e && bytes_eq r.user user

      chosen_is : (w : Option (List ℕ)) (s : Stay) → s.is_boot ≡ is_boot_event (event_of r) → s.user ≡ r.user → counted w s ≡ chosen (event_of r) w
      chosen_is None s boot user = ap not boot
      chosen_is (Some name) s boot user = λ i. not (boot i) && bytes_eq (user i) name

      counted_is : (w : Option (List ℕ)) → counts w r ≡ counted_by (event_of r) w
      counted_is None = refl
      counted_is (Some user) = refl

      over : (e : Event) (w : Option (List ℕ)) (n m : ℕ) → starts_stay e ≡ true → cond (chosen e w) n 0 ≡ cond (counted_by e w) n 0 + cond (is_login_event e && false) m 0
      over Login None n m h = omega arith
      over Login (Some user) n m h = omega arith
      over Boot None n m h = omega arith
      over Boot (Some user) n m h = omega arith
      over Logout w n m h = cc
      over Down w n m h = cc
      over OldTime w n m h = cc
      over NewTime w n m h = cc
      over Nothing w n m h = cc

      none : (c : Bool) (n : ℕ) → cond c n 0 ≡ cond {A = ℕ} c 0 0 + cond c n 0
      none true n = omega arith
      none false n = omega arith

      still : (e : Event) (w : Option (List ℕ)) (n : ℕ) → starts_stay e ≡ true → cond (chosen e w) n 0 ≡ cond {A = ℕ} (counted_by e w) 0 0 + cond (is_login_event e && true) (cond (covers w r.user) n 0) 0
      still Login None n h = omega arith
      still Login (Some user) n h = none (bytes_eq r.user user) n
      still Boot None n h = omega arith
      still Boot (Some user) n h = omega arith
      still Logout w n h = cc
      still Down w n h = cc
      still OldTime w n h = cc
      still NewTime w n h = cc
      still Nothing w n h = cc

      by : (o : Option LoginRecord)
          → cond (counted who (completed_if 0 now time (at (ended_of 0 before r after o)) (ended_of 0 before r after o))) (completed_if 0 now time (at (ended_of 0 before r after o)) (ended_of 0 before r after o)).length 0
          ≡ ended_seconds who (at (ended_of 0 before r after o)) + weight_of (seconds_at who now time) (at (ended_of 0 before r after o))
      by (Some y) =
          let s = stay_of 0 before r after None in
          (λ i. cond (chosen_is who s refl refl i) s.length 0)
          ∙ over (event_of r) who s.length (seconds_at who now time (open_of (at (Some s)))) starts
          ∙ (λ i. cond (sym (counted_is who) i) s.length 0 + weight_of (seconds_at who now time) (at (Some s)))
      by None =
          let s = completed_if 0 now time (at None) None in
          (λ i. cond (chosen_is who s refl refl i) s.length 0)
          ∙ still (event_of r) who s.length starts
          ∙ (λ i. cond {A = ℕ} (sym (counted_is who) i) 0 0 + weight_of (seconds_at who now time) (at None))

  all-now : (before rs : List LoginRecord)
      → seconds_of who (map (completed 0 now time) (tracked_from 0 before rs)) ≡ sum_by (ended_seconds who) (tracked_from 0 before rs) + sum_by (weight_of (seconds_at who now time)) (tracked_from 0 before rs)
  all-now before [] = refl
  all-now before (r ∷ rs) = by (starts_stay (event_of r)) refl (all-now (before ++ r ∷ []) rs)
    where
      t : Tracked
      t = tracked_of 0 before r rs

      ts : List Tracked
      ts = tracked_from 0 (before ++ r ∷ []) rs

      f : Tracked → ℕ
      f = ended_seconds who

      g : Tracked → ℕ
      g = weight_of (seconds_at who now time)

      by : (b : Bool) → starts_stay (event_of r) ≡ b → seconds_of who (map (completed 0 now time) ts) ≡ sum_by f ts + sum_by g ts → seconds_of who (map (completed 0 now time) (cond b (t ∷ ts) ts)) ≡ sum_by f (cond b (t ∷ ts) ts) + sum_by g (cond b (t ∷ ts) ts)
      by true starts rest = omega (arith, filter-cons (counted who) (completed 0 now time t) (map (completed 0 now time) ts), one-now before r rs starts, rest, sum_by-cons f t ts, sum_by-cons g t ts)
      by false starts rest = rest

-- the seconds of the sessions of the records that were counted, up to a moment or else the last time
pub seconds_are : (c : Counted) (rs : List LoginRecord) (who : Option (List ℕ)) (until : Option ℤ) → IsCountOf c rs
    → sum_of c who + sum_by (seconds_at who c.clock (unwrap_or until c.last)) c.opens ≡ seconds_of who (stays_from 0 [] rs until)
seconds_are c rs who until h =
    (λ i. h.ended who i + h.opens (seconds_at who (h.clock i) (unwrap_or until (h.last i))) i)
    ∙ sym (all-now who (clock rs) (unwrap_or until (last_time (pos 0) rs)) [] rs)
    ∙ ap (seconds_of who) (sym (stays_from-tracked 0 [] rs until (pos 0)))

-- the same, by the fields of a count
pub running-seconds : (r : Running) (rs : List LoginRecord) (who : Option (List ℕ)) (until : Option ℤ) → IsCountOf (counted_in r) rs
    → kept_sum r.ended.sums who + weight_in (seconds_at who r.clock (unwrap_or until r.last)) r.slots.items ≡ seconds_of who (stays_from 0 [] rs until)
running-seconds r rs who until h =
    (λ i. sym (sum-seen (counted_in r) r.ended (Seconds who) refl refl refl refl) i + sym (weight-opens (seconds_at who r.clock (unwrap_or until r.last)) r.slots.items) i)
    ∙ seconds_are (counted_in r) rs who until h
