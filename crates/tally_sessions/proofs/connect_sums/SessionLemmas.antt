-- The sessions of a count: those that have ended and those that are open are those of its records.
use Rattle.std.proofs.Common.{◌≡◌, ℕ, ◌+◌, ◌&&◌, Bool, true, false, cond, List, [], ◌∷◌, ◌++◌, map, filter, Option, Some, None, unwrap_or, not, ℤ, pos, refl, sym, ap, ◌∙◌, arith}
use Rattle.std.proofs.lemmas.List.Sums.{sum_by-append, sum_by-cons}
use Rattle.std.specs.Prelude.{sum_by}
use Rattle.tally_records.specs.Choice.{every_login}
use Rattle.tally_records.specs.Period.{always}
use Rattle.tally_records.specs.declared.login.LoginRecord.{LoginRecord}
use Rattle.tally_records.specs.declared.login.Event.{Event}
use Rattle.tally_records.specs.declared.login.Event.TheVariants.{Login, Logout, Boot, Down, OldTime, NewTime, Nothing}
use Rattle.tally_records.specs.Event.{event_of}
use Rattle.tally_sessions.specs.declared.entry.Stay.{Stay}
use Rattle.tally_sessions.specs.declared.sums.Session.{Session}
use Rattle.tally_sessions.specs.Stays.{first_end, is_boot_event, last_time, starts_stay, stay_of, stays_from}
use Rattle.tally_sessions.specs.Sums.{session_in, sessions_among}
use Rattle.tally_sessions.specs.inside.Track.{is_login_event}
use Rattle.tally_sessions.specs.inside.Tracking.{Tracked, clock, completed, completed_if, ended_of, tracked_from, tracked_of}
use Rattle.tally_sessions.proofs.connect_sums.CountLemmas.{sum_of_made}
use Rattle.tally_sessions.proofs.track.Forward.{stays_from-tracked}
use Rattle.tally_sessions.specs.Opens.{Open, ended_weight, open_of, session_at, weight_of}
use Rattle.tally_sessions.specs.ConnectSums.{Counted, IsCountOf}

module _ (weight : Session → ℕ) where
  -- what a stay weighs
  own : Stay → ℕ
  own s = weight (session_in always s)

  -- one stay more, where it is a session
  among-cons : (s : Stay) (ss : List Stay) → sum_by weight (sessions_among every_login (s ∷ ss)) ≡ cond (not s.is_boot) (weight (session_in always s)) 0 + sum_by weight (sessions_among every_login ss)
  among-cons s ss = by (not s.is_boot)
    where
      kept : List Stay
      kept = filter (λ (x : Stay). not x.is_boot) ss

      by : (b : Bool) → sum_by weight (map (session_in always) (cond b (s ∷ kept) kept)) ≡ cond b (weight (session_in always s)) 0 + sum_by weight (map (session_in always) kept)
      by true = sum_by-cons weight (session_in always s) (map (session_in always) kept)
      by false = omega arith

  module _ (now time : ℤ) where
    -- what an open session weighs, counted up to a time
    open_weight : Open → ℕ
    open_weight o = weight (session_at now time o)

    -- a stay weighs what an ended session does, or an open one
    one-now : (before : List LoginRecord) (r : LoginRecord) (after : List LoginRecord) → starts_stay (event_of r) ≡ true
        → cond (not (completed 0 now time (tracked_of 0 before r after)).is_boot) (weight (session_in always (completed 0 now time (tracked_of 0 before r after)))) 0
        ≡ ended_weight weight (tracked_of 0 before r after) + weight_of (λ o. weight (session_at now time o)) (tracked_of 0 before r after)
    one-now before r after starts = by (first_end r after)
      where
        at : Option Stay → Tracked
        at o = record { start = r; clock_at = clock (before ++ r ∷ []); ended = o }

        over : (e : Event) (n m : ℕ) → starts_stay e ≡ true → cond (not (is_boot_event e)) n 0 ≡ cond (is_login_event e) n 0 + cond (is_login_event e && false) m 0
        over Login n m h = omega arith
        over Boot n m h = omega arith
        over Logout n m h = cc
        over Down n m h = cc
        over OldTime n m h = cc
        over NewTime n m h = cc
        over Nothing n m h = cc

        still : (e : Event) (n : ℕ) → starts_stay e ≡ true → cond (not (is_boot_event e)) n 0 ≡ cond {A = ℕ} (is_login_event e) 0 0 + cond (is_login_event e && true) n 0
        still Login n h = omega arith
        still Boot n h = omega arith
        still Logout n h = cc
        still Down n h = cc
        still OldTime n h = cc
        still NewTime n h = cc
        still Nothing n h = cc

        by : (o : Option LoginRecord)
            → cond (not (completed_if 0 now time (at (ended_of 0 before r after o)) (ended_of 0 before r after o)).is_boot) (weight (session_in always (completed_if 0 now time (at (ended_of 0 before r after o)) (ended_of 0 before r after o)))) 0
            ≡ ended_weight weight (at (ended_of 0 before r after o)) + weight_of (λ o. weight (session_at now time o)) (at (ended_of 0 before r after o))
        by (Some y) =
            let s = stay_of 0 before r after None in
            over (event_of r) (weight (session_in always s)) (weight (session_at now time (open_of (at (Some s))))) starts
        by None = still (event_of r) (weight (session_at now time (open_of (at None)))) starts

    all-now : (before rs : List LoginRecord)
        → sum_by weight (sessions_among every_login (map (completed 0 now time) (tracked_from 0 before rs)))
        ≡ sum_by (ended_weight weight) (tracked_from 0 before rs) + sum_by (weight_of (λ o. weight (session_at now time o))) (tracked_from 0 before rs)
    all-now before [] = refl
    all-now before (r ∷ rs) = by (starts_stay (event_of r)) refl (all-now (before ++ r ∷ []) rs)
      where
        t : Tracked
        t = tracked_of 0 before r rs

        ts : List Tracked
        ts = tracked_from 0 (before ++ r ∷ []) rs

        f : Tracked → ℕ
        f = ended_weight weight

        g : Tracked → ℕ
        g = weight_of (λ o. weight (session_at now time o))

        by : (b : Bool) → starts_stay (event_of r) ≡ b → sum_by weight (sessions_among every_login (map (completed 0 now time) ts)) ≡ sum_by f ts + sum_by g ts
            → sum_by weight (sessions_among every_login (map (completed 0 now time) (cond b (t ∷ ts) ts))) ≡ sum_by f (cond b (t ∷ ts) ts) + sum_by g (cond b (t ∷ ts) ts)
        by true starts rest = omega (arith, among-cons (completed 0 now time t) (map (completed 0 now time) ts), one-now before r rs starts, rest, sum_by-cons f t ts, sum_by-cons g t ts)
        by false starts rest = rest

-- the sessions of the records that were counted, up to a moment or else the last time
pub sessions_are : (c : Counted) (rs : List LoginRecord) (until : Option ℤ) → IsCountOf c rs → c.keeps_sessions ≡ true → (weight : Session → ℕ)
    → sum_by weight (c.sessions ++ map (session_at c.clock (unwrap_or until c.last)) c.opens) ≡ sum_by weight (sessions_among every_login (stays_from 0 [] rs until))
sessions_are c rs until h keeps weight =
    sum_by-append weight c.sessions (map (session_at c.clock (unwrap_or until c.last)) c.opens)
    ∙ ap (λ n. sum_by weight c.sessions + n) (sum_of_made weight (λ o. weight (session_at c.clock (unwrap_or until c.last) o)) (session_at c.clock (unwrap_or until c.last)) c.opens (λ o. refl))
    ∙ (λ i. h.sessions keeps weight i + h.opens (λ o. weight (session_at (h.clock i) (unwrap_or until (h.last i)) o)) i)
    ∙ sym (all-now weight (clock rs) (unwrap_or until (last_time (pos 0) rs)) [] rs)
    ∙ ap (λ (stays : List Stay). sum_by weight (sessions_among every_login stays)) (sym (stays_from-tracked 0 [] rs until (pos 0)))
