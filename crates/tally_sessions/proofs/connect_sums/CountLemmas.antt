-- The count of records, and of one record more.
use Rattle.std.proofs.Common.{◌≡◌, ℕ, ◌+◌, ◌&&◌, Bool, true, false, cond, List, [], ◌∷◌, ◌++◌, map, length-append, Option, Some, None, is_some, not, ℤ, pos, ◌+ℤ◌, refl, sym, ap, ◌∙◌, arith}
use Rattle.std.proofs.lemmas.List.Sums.{sum_by-append, sum_by-cons}
use Rattle.std.specs.Option.{option_map_or}
use Rattle.std.specs.Prelude.{bytes_eq, sum_by}
use Rattle.tally_records.specs.declared.login.LoginRecord.{LoginRecord}
use Rattle.tally_records.specs.declared.login.Event.{Event}
use Rattle.tally_records.specs.declared.login.Event.TheVariants.{Login, Logout, Boot, Down, OldTime, NewTime, Nothing}
use Rattle.tally_records.specs.Event.{event_of}
use Rattle.tally_records.specs.Period.{always}
use Rattle.tally_sessions.specs.declared.entry.Stay.{Stay}
use Rattle.tally_sessions.specs.Clock.{shift_at}
use Rattle.tally_sessions.specs.Stays.{ends_event, starts_stay}
use Rattle.tally_sessions.specs.inside.Track.{counts, covers, is_login_event}
use Rattle.tally_sessions.specs.inside.Tracking.{Tracked, advance_if, advanced, clock, ended_by, fresh, pending_at}
use Rattle.tally_sessions.proofs.track.Clocks.{pending_old_time-push}
use Rattle.tally_sessions.proofs.track.Forward.{clock-push, last_time-push, tracked_from-push}
use Rattle.tally_sessions.specs.Opens.{Open, ended_seconds, ended_weight, length_at, open_of, session_at, weight_of}
use Rattle.tally_sessions.specs.ConnectSums.{Counted, IsCountOf, sum_of, tracked}
use Rattle.tally_sessions.specs.Sums.{session_in}
use Rattle.tally_sessions.specs.declared.sums.Session.{Session}
use Rattle.tally_sessions.specs.inside.Ended.{Seconds, Weight}
use Rattle.tally_sessions.specs.inside.Steps.{IsStep, leaving, opened, opening, staying}

-- sums over what a function made of each item
pub sum_of_made : {X Y : Type 0} (f : Y → ℕ) (g : X → ℕ) (h : X → Y) (xs : List X) → ((x : X) → f (h x) ≡ g x) → sum_by f (map h xs) ≡ sum_by g xs
sum_of_made f g h [] same = refl
sum_of_made f g h (x ∷ xs) same =
    sum_by-cons f (h x) (map h xs) ∙ (λ i. same x i + sum_of_made f g h xs same i) ∙ sym (sum_by-cons g x xs)

pub sum_of_grown : {X : Type 0} (f g : X → ℕ) (h : X → X) (xs : List X) → ((x : X) → f (h x) ≡ f x + g x) → sum_by f (map h xs) ≡ sum_by f xs + sum_by g xs
sum_of_grown f g h [] more = refl
sum_of_grown f g h (x ∷ xs) more =
    let head = more x in
    let rest = sum_of_grown f g h xs more in
    omega (arith, sum_by-cons f (h x) (map h xs), head, rest, sum_by-cons f x xs, sum_by-cons g x xs)

module _ (now : ℤ) (x : LoginRecord) (t : Tracked) where
  abbrev at : Option Stay → Tracked
  at o = record t { ended = o }

  -- whether the record ends a session on its line
  abbrev same_line : Bool
  same_line = bytes_eq t.start.line x.line

  -- a session stays open, or a record ends it
  weight-advanced : (weight : Open → ℕ) → weight_of weight (advanced 0 now x t) ≡ weight_of (staying x weight) t
  weight-advanced weight = by t.ended
    where
      over : (e : Event) (m n : ℕ) → cond (is_login_event e && false) m 0 ≡ cond (is_login_event e && false) n 0
      over Login m n = refl
      over Logout m n = refl
      over Boot m n = refl
      over Down m n = refl
      over OldTime m n = refl
      over NewTime m n = refl
      over Nothing m n = refl

      ends : (b : Bool) (n : ℕ) → cond (not (is_some (ended_by 0 now x (at None) (cond b (Some x) None)))) n 0 ≡ cond b 0 n
      ends true n = refl
      ends false n = refl

      pending : (e : Event) (n : ℕ) → cond (is_login_event e && not (is_some (ended_by 0 now x (at None) (cond (ends_event e (event_of x) same_line) (Some x) None)))) n 0
          ≡ cond (is_login_event e && true) (cond (ends_event Login (event_of x) same_line) 0 n) 0
      pending Login n = ends (ends_event Login (event_of x) same_line) n
      pending Logout n = refl
      pending Boot n = refl
      pending Down n = refl
      pending OldTime n = refl
      pending NewTime n = refl
      pending Nothing n = refl

      by : (o : Option Stay) → weight_of weight (advance_if 0 now x (at o) o) ≡ weight_of (staying x weight) (at o)
      by (Some s) = over (event_of t.start) _ _
      by None = pending (event_of t.start) (weight (open_of t))

  -- a session that the record ends has its seconds from then on
  ended-advanced : (who : Option (List ℕ)) → ended_seconds who (advanced 0 now x t) ≡ ended_seconds who t + weight_of (leaving false (Seconds who) now x) t
  ended-advanced who = by t.ended
    where
      over : (e : Event) (m n : ℕ) → m ≡ m + cond (is_login_event e && false) n 0
      over Login m n = omega arith
      over Logout m n = omega arith
      over Boot m n = omega arith
      over Down m n = omega arith
      over OldTime m n = omega arith
      over NewTime m n = omega arith
      over Nothing m n = omega arith

      seconds : ℕ
      seconds = length_at now x.time (open_of t)

      ends : (b c : Bool) → cond c (option_map_or (λ (s : Stay). s.length) (ended_by 0 now x (at None) (cond b (Some x) None)) 0) 0 ≡ cond {A = ℕ} c 0 0 + cond b (cond c seconds 0) 0
      ends true true = omega arith
      ends true false = omega arith
      ends false true = omega arith
      ends false false = omega arith

      counted : Event → Option (List ℕ) → Bool
      counted e None = is_login_event e
      counted e (Some user) = is_login_event e && bytes_eq t.start.user user

      pending : (e : Event) (w : Option (List ℕ)) → cond (counted e w) (option_map_or (λ (s : Stay). s.length) (ended_by 0 now x (at None) (cond (ends_event e (event_of x) same_line) (Some x) None)) 0) 0
          ≡ cond {A = ℕ} (counted e w) 0 0 + cond (is_login_event e && true) (cond (ends_event Login (event_of x) same_line) (cond (covers w t.start.user) seconds 0) 0) 0
      pending Login None = ends (ends_event Login (event_of x) same_line) true
      pending Login (Some user) = ends (ends_event Login (event_of x) same_line) (bytes_eq t.start.user user)
      pending Logout None = omega arith
      pending Logout (Some user) = omega arith
      pending Boot None = omega arith
      pending Boot (Some user) = omega arith
      pending Down None = omega arith
      pending Down (Some user) = omega arith
      pending OldTime None = omega arith
      pending OldTime (Some user) = omega arith
      pending NewTime None = omega arith
      pending NewTime (Some user) = omega arith
      pending Nothing None = omega arith
      pending Nothing (Some user) = omega arith

      is_counted : (w : Option (List ℕ)) → counted (event_of t.start) w ≡ counts w t.start
      is_counted None = refl
      is_counted (Some user) = refl

      by : (o : Option Stay) → ended_seconds who (advance_if 0 now x (at o) o) ≡ ended_seconds who (at o) + weight_of (leaving false (Seconds who) now x) (at o)
      by (Some s) = over (event_of t.start) (ended_seconds who (at (Some s))) _
      by None =
          (λ i. cond (sym (is_counted who) i) (option_map_or (λ (s : Stay). s.length) (ended_by 0 now x (at None) (cond (ends_event (event_of t.start) (event_of x) same_line) (Some x) None)) 0) 0)
          ∙ pending (event_of t.start) who
          ∙ (λ i. cond {A = ℕ} (is_counted who i) 0 0 + weight_of (leaving false (Seconds who) now x) (at None))

  -- and weighs from then on what it weighs
  weight-ended : (weight : Session → ℕ) → ended_weight weight (advanced 0 now x t) ≡ ended_weight weight t + weight_of (leaving true (Weight weight) now x) t
  weight-ended weight = by t.ended
    where
      over : (e : Event) (m n : ℕ) → m ≡ m + cond (is_login_event e && false) n 0
      over Login m n = omega arith
      over Logout m n = omega arith
      over Boot m n = omega arith
      over Down m n = omega arith
      over OldTime m n = omega arith
      over NewTime m n = omega arith
      over Nothing m n = omega arith

      of : Stay → ℕ
      of s = weight (session_in always s)

      own : ℕ
      own = weight (session_at now x.time (open_of t))

      ends : (b : Bool) → option_map_or of (ended_by 0 now x (at None) (cond b (Some x) None)) 0 ≡ 0 + cond b own 0
      ends true = omega arith
      ends false = omega arith

      pending : (e : Event) → cond (is_login_event e) (option_map_or of (ended_by 0 now x (at None) (cond (ends_event e (event_of x) same_line) (Some x) None)) 0) 0
          ≡ cond {A = ℕ} (is_login_event e) 0 0 + cond (is_login_event e && true) (cond (ends_event Login (event_of x) same_line) own 0) 0
      pending Login = ends (ends_event Login (event_of x) same_line)
      pending Logout = omega arith
      pending Boot = omega arith
      pending Down = omega arith
      pending OldTime = omega arith
      pending NewTime = omega arith
      pending Nothing = omega arith

      by : (o : Option Stay) → ended_weight weight (advance_if 0 now x (at o) o) ≡ ended_weight weight (at o) + weight_of (leaving true (Weight weight) now x) (at o)
      by (Some s) = over (event_of t.start) (ended_weight weight (at (Some s))) _
      by None = pending (event_of t.start)

-- the stay that a record starts is open where it is a login, and has ended nothing
weight-fresh : (rs : List LoginRecord) (x : LoginRecord) (weight : Open → ℕ) → sum_by (weight_of weight) (fresh rs x) ≡ opening x (clock (rs ++ x ∷ [])) weight
weight-fresh rs x weight = by (event_of x) refl
  where
    new : Tracked
    new = record { start = x; clock_at = clock (rs ++ x ∷ []); ended = None }

    is : (e : Event) → event_of x ≡ e → sum_by (weight_of weight) (cond (starts_stay e) (new ∷ []) []) ≡ sum_by (weight_of weight) (fresh rs x)
    is e h = ap (λ v. sum_by (weight_of weight) (cond (starts_stay v) (new ∷ []) [])) (sym h)

    heavy : (e : Event) → event_of x ≡ e → weight_of weight new ≡ cond (is_login_event e && true) (weight (opened x (clock (rs ++ x ∷ [])))) 0
    heavy e h = ap (λ v. cond (is_login_event v && true) (weight (opened x (clock (rs ++ x ∷ [])))) 0) h

    opens : (e : Event) → event_of x ≡ e → cond (is_login_event e) (weight (opened x (clock (rs ++ x ∷ [])))) 0 ≡ opening x (clock (rs ++ x ∷ [])) weight
    opens e h = ap (λ v. cond (is_login_event v) (weight (opened x (clock (rs ++ x ∷ [])))) 0) (sym h)

    by : (e : Event) → event_of x ≡ e → sum_by (weight_of weight) (fresh rs x) ≡ opening x (clock (rs ++ x ∷ [])) weight
    by Login h = omega (arith, is Login h, heavy Login h, opens Login h)
    by Logout h = omega (arith, is Logout h, opens Logout h)
    by Boot h = omega (arith, is Boot h, heavy Boot h, opens Boot h)
    by Down h = omega (arith, is Down h, opens Down h)
    by OldTime h = omega (arith, is OldTime h, opens OldTime h)
    by NewTime h = omega (arith, is NewTime h, opens NewTime h)
    by Nothing h = omega (arith, is Nothing h, opens Nothing h)

zero_either_way : (c : Bool) → cond {A = ℕ} c 0 0 ≡ 0
zero_either_way true = refl
zero_either_way false = refl

ended-fresh : (who : Option (List ℕ)) (rs : List LoginRecord) (x : LoginRecord) → sum_by (ended_seconds who) (fresh rs x) ≡ 0
ended-fresh who rs x = by (starts_stay (event_of x)) (counts who x)
  where
    by : (b c : Bool) → sum_by (ended_seconds who) (cond b (record { start = x; clock_at = clock (rs ++ x ∷ []); ended = None } ∷ []) []) ≡ 0
    by true c = let none = zero_either_way (counts who x) in omega (arith, none)
    by false c = refl

weight-none : (weight : Session → ℕ) (rs : List LoginRecord) (x : LoginRecord) → sum_by (ended_weight weight) (fresh rs x) ≡ 0
weight-none weight rs x = by (starts_stay (event_of x))
  where
    by : (b : Bool) → sum_by (ended_weight weight) (cond b (record { start = x; clock_at = clock (rs ++ x ∷ []); ended = None } ∷ []) []) ≡ 0
    by true = let none = zero_either_way (is_login_event (event_of x)) in omega (arith, none)
    by false = refl

-- the count of one record more
pub IsCountOf-step : (old new : Counted) (rs : List LoginRecord) (x : LoginRecord) → IsStep old new x → IsCountOf old rs → IsCountOf new (rs ++ x ∷ [])
IsCountOf-step old new rs x step h =
    let now : new.clock ≡ clock (rs ++ x ∷ []) =
    step.clock
    ∙ ap (λ (z : ℤ). z +ℤ shift_at (event_of x) old.old_time x.time) h.clock
    ∙ ap (λ (o : Option ℤ). clock rs +ℤ shift_at (event_of x) o x.time) h.old_time
    ∙ sym (clock-push rs x) in
    let more : tracked (rs ++ x ∷ []) ≡ map (advanced 0 (clock (rs ++ x ∷ [])) x) (tracked rs) ++ fresh rs x = tracked_from-push 0 [] rs x in record {
      count = omega (arith, step.count, h.count, length-append rs (x ∷ []));
      clock = now;
      old_time = step.old_time ∙ ap (λ (o : Option ℤ). pending_at (event_of x) x.time o) h.old_time ∙ sym (pending_old_time-push rs x);
      last = step.last ∙ sym (last_time-push (pos 0) rs x);
      opens = λ weight.
          step.opens weight
          ∙ (λ i. h.opens (staying x weight) i + opening x (now i) weight)
          ∙ (λ i. sym (sum_of_made (weight_of weight) (weight_of (staying x weight)) (advanced 0 (clock (rs ++ x ∷ [])) x) (tracked rs) (λ t. weight-advanced (clock (rs ++ x ∷ [])) x t weight)) i + sym (weight-fresh rs x weight) i)
          ∙ sym (sum_by-append (weight_of weight) (map (advanced 0 (clock (rs ++ x ∷ [])) x) (tracked rs)) (fresh rs x))
          ∙ ap (sum_by (weight_of weight)) (sym more);
      ended = λ who.
          let f = ended_seconds who in
          let g = weight_of (leaving false (Seconds who) (clock (rs ++ x ∷ [])) x) in
          let left : sum_of new who ≡ sum_by f (tracked rs) + sum_by g (tracked rs) =
          step.ended (Seconds who)
          ∙ (λ i. h.ended who i + h.opens (leaving false (Seconds who) (now i) x) i) in
          let grown = sum_of_grown f g (advanced 0 (clock (rs ++ x ∷ [])) x) (tracked rs) (λ t. ended-advanced (clock (rs ++ x ∷ [])) x t who) in
          let whole = ap (sum_by f) more ∙ sum_by-append f (map (advanced 0 (clock (rs ++ x ∷ [])) x) (tracked rs)) (fresh rs x) in
          let none = ended-fresh who rs x in
          omega (arith, left, grown, whole, none);
      sessions = λ keeps weight.
          let f = ended_weight weight in
          let g = weight_of (leaving true (Weight weight) (clock (rs ++ x ∷ [])) x) in
          let kept : old.keeps_sessions ≡ true = sym step.keeps ∙ keeps in
          let left : sum_by weight new.sessions ≡ sum_by f (tracked rs) + sum_by g (tracked rs) =
          (λ i. cond (sym keeps i) (sum_by weight new.sessions) 0)
          ∙ step.ended (Weight weight)
          ∙ (λ i. cond (kept i) (sum_by weight old.sessions) 0 + sum_by (leaving (kept i) (Weight weight) (now i) x) old.opens)
          ∙ (λ i. h.sessions kept weight i + h.opens (leaving true (Weight weight) (clock (rs ++ x ∷ [])) x) i) in
          let grown = sum_of_grown f g (advanced 0 (clock (rs ++ x ∷ [])) x) (tracked rs) (λ t. weight-ended (clock (rs ++ x ∷ [])) x t weight) in
          let whole = ap (sum_by f) more ∙ sum_by-append f (map (advanced 0 (clock (rs ++ x ∷ [])) x) (tracked rs)) (fresh rs x) in
          let none = weight-none weight rs x in
          omega (arith, left, grown, whole, none);
    }
