-- Slots, and what their sessions weigh.
use Rattle.std.proofs.Common.{◌≡◌, ◌≢◌, ◌⊎◌, inl, inr, ℕ, suc, ◌+◌, ◌<◌, ◌≤◌, Bool, true, false, cond, List, [], ◌∷◌, length, get_or, set, Option, None, Some, unwrap_or, ℤ, refl, sym, ap, ◌∙◌, arith}
use Rattle.std.proofs.lemmas.Bool.{cases_eq, false≢true}
use Rattle.std.proofs.lemmas.List.{get_or-set_same, get_or-set_other, length-set}
use Rattle.std.proofs.lemmas.List.Sums.{sum_by-cons, sum_by-set}
use Rattle.std.proofs.lemmas.Slice.Eq.{bytes_eq-Decides}
use Rattle.std.proofs.lemmas.Map.Text.{is_eq-slice_cmp}
use Rattle.std.specs.Cmp.Lexicographic.{slice_cmp}
use Rattle.std.specs.Map.{lookup}
use Rattle.std.specs.Ordering.{is_eq, nat_cmp}
use Rattle.std.specs.Option.{option_map}
use Rattle.std.specs.Prelude.{bytes_eq, sum_by}
use Rattle.tally_records.specs.declared.login.LoginRecord.{LoginRecord}
use Rattle.tally_records.specs.declared.login.Event.{Event}
use Rattle.tally_records.specs.declared.login.Event.TheVariants.{Login, Logout, Boot, Down, OldTime, NewTime, Nothing}
use Rattle.tally_records.specs.Event.{event_of}
use Rattle.tally_sessions.specs.declared.connect_sums.slot.Slot.{Slot}
use Rattle.tally_sessions.specs.declared.connect_sums.ended.Ended.{Ended}
use Rattle.tally_sessions.specs.ConnectSums.{Counted}
use Rattle.tally_sessions.specs.Opens.{Open, length_at, seconds_at}
use Rattle.tally_sessions.specs.Stays.{ends_event}
use Rattle.tally_sessions.specs.inside.Ended.{Asked, Seconds, Weight, counted, measured, sessions_in, weighed}
use Rattle.tally_sessions.specs.inside.Steps.{leaving, opened, opening, staying}
use Rattle.tally_sessions.specs.inside.Track.{ends_every_stay, ends_line_stay, is_login_event}
use Rattle.tally_sessions.specs.inside.Slots.{begun, closed, no_slot, off_line, on_line, one, open_count, opens_in, session_of, slot_at, unlisted, weight_at, weight_in}

-- sums of items that weigh the same, place by place
pub sum_alike : {X : Type 0} (f g : X → ℕ) (d : X) (xs ys : List X) → length xs ≡ length ys → ((i : ℕ) → i < length xs → f (get_or xs i d) ≡ g (get_or ys i d)) → sum_by f xs ≡ sum_by g ys
sum_alike f g d [] [] len same = refl
sum_alike f g d [] (y ∷ ys) len same = absurd (let bad : 0 ≡ suc (length ys) = len in omega (arith, bad))
sum_alike f g d (x ∷ xs) [] len same = absurd (let bad : suc (length xs) ≡ 0 = len in omega (arith, bad))
sum_alike f g d (x ∷ xs) (y ∷ ys) len same =
    sum_by-cons f x xs
    ∙ (λ i. same 0 (omega arith) i + sum_alike f g d xs ys (omega (arith, len)) (λ k lt. same (suc k) (omega (arith, lt))) i)
    ∙ sym (sum_by-cons g y ys)

pub sum_zero : {X : Type 0} (f : X → ℕ) (d : X) (xs : List X) → ((i : ℕ) → i < length xs → f (get_or xs i d) ≡ 0) → sum_by f xs ≡ 0
sum_zero f d [] none = refl
sum_zero f d (x ∷ xs) none = let head = none 0 (omega arith) in let rest = sum_zero f d xs (λ k lt. none (suc k) (omega (arith, lt))) in omega (arith, sum_by-cons f x xs, head, rest)

-- what the open sessions of slots weigh
pub weight-opens : (weight : Open → ℕ) (slots : List Slot) → sum_by weight (opens_in slots) ≡ weight_in weight slots
weight-opens weight [] = refl
weight-opens weight (s ∷ ss) = by s.is_open refl (weight-opens weight ss)
  where
    by : (b : Bool) → s.is_open ≡ b → sum_by weight (opens_in ss) ≡ weight_in weight ss → sum_by weight (opens_in (s ∷ ss)) ≡ weight_in weight (s ∷ ss)
    by true e rest =
        let opens = ap (λ t. sum_by weight (cond t (session_of s ∷ opens_in ss) (opens_in ss))) e in
        let own : weight_at weight s ≡ weight (session_of s) = ap (λ t. cond t (weight (session_of s)) 0) e in
        omega (arith, opens, own, rest, sum_by-cons weight (session_of s) (opens_in ss), sum_by-cons (weight_at weight) s ss)
    by false e rest =
        let opens = ap (λ t. sum_by weight (cond t (session_of s ∷ opens_in ss) (opens_in ss))) e in
        let own : weight_at weight s ≡ 0 = ap (λ t. cond t (weight (session_of s)) 0) e in
        omega (arith, opens, own, rest, sum_by-cons (weight_at weight) s ss)

if_zero : (b : Bool) → cond {A = ℕ} b 0 0 ≡ 0
if_zero true = refl
if_zero false = refl

-- the one slot of a line
module _ (slots : List Slot) (k : ℕ) (line : List ℕ) (lt : k < length slots) (here : (slot_at slots k).line ≡ line) (alone : (i : ℕ) → i < length slots → (slot_at slots i).line ≡ line → i ≡ k) where
  own : bytes_eq (slot_at slots k).line line ≡ true
  own = (bytes_eq-Decides (slot_at slots k).line line).1 here

  other : (i : ℕ) → i < length slots → i ≢ k → bytes_eq (slot_at slots i).line line ≡ false
  other i within apart = by (bytes_eq (slot_at slots i).line line) refl
    where
      by : (b : Bool) → bytes_eq (slot_at slots i).line line ≡ b → b ≡ false
      by false e = refl
      by true e = absurd (apart (alone i within ((bytes_eq-Decides (slot_at slots i).line line).0 e)))

  -- once its session has ended, those of other lines are left
  pub weight-ended : (weight : Open → ℕ) → weight_in weight (set slots k (closed (slot_at slots k))) ≡ weight_in (off_line line weight) slots
  weight-ended weight =
      sum_alike (weight_at weight) (weight_at (off_line line weight)) no_slot (set slots k (closed (slot_at slots k))) slots (length-set slots k (closed (slot_at slots k)))
      (λ i within. by i (omega (arith, within, length-set slots k (closed (slot_at slots k)))) (cases_eq i k))
    where
      by : (i : ℕ) → i < length slots → (i ≡ k) ⊎ (i ≢ k) → weight_at weight (slot_at (set slots k (closed (slot_at slots k))) i) ≡ weight_at (off_line line weight) (slot_at slots i)
      by i within (inl e) =
          let s = slot_at slots k in
          ap (λ j. weight_at weight (slot_at (set slots k (closed s)) j)) e
          ∙ ap (weight_at weight) (get_or-set_same slots k (closed s) no_slot lt)
          ∙ sym (if_zero s.is_open)
          ∙ ap (λ b. cond s.is_open (cond b 0 (weight (session_of s))) 0) (sym own)
          ∙ ap (λ j. weight_at (off_line line weight) (slot_at slots j)) (sym e)
      by i within (inr apart) =
          let s = slot_at slots i in
          ap (weight_at weight) (get_or-set_other slots k i (closed (slot_at slots k)) no_slot apart)
          ∙ ap (λ b. cond s.is_open (cond b 0 (weight (session_of s))) 0) (sym (other i within apart))

  -- it weighs as much as the sessions on the line
  pub weight-on : (weight : Open → ℕ) → weight_in (on_line line weight) slots ≡ weight_at weight (slot_at slots k)
  weight-on weight =
      let s = slot_at slots k in
      let left = sum_by-set (weight_at (on_line line weight)) slots k (closed s) no_slot lt in
      let none = sum_zero (weight_at (on_line line weight)) no_slot (set slots k (closed s)) (λ i within. by i (omega (arith, within, length-set slots k (closed s))) (cases_eq i k)) in
      let self : weight_at (on_line line weight) s ≡ weight_at weight s = ap (λ b. cond s.is_open (cond b (weight (session_of s)) 0) 0) own in
      omega (arith, left, none, self)
    where
      by : (i : ℕ) → i < length slots → (i ≡ k) ⊎ (i ≢ k) → weight_at (on_line line weight) (slot_at (set slots k (closed (slot_at slots k))) i) ≡ 0
      by i within (inl e) =
          let s = slot_at slots k in
          ap (λ j. weight_at (on_line line weight) (slot_at (set slots k (closed s)) j)) e
          ∙ ap (weight_at (on_line line weight)) (get_or-set_same slots k (closed s) no_slot lt)
      by i within (inr apart) =
          let s = slot_at slots i in
          ap (weight_at (on_line line weight)) (get_or-set_other slots k i (closed (slot_at slots k)) no_slot apart)
          ∙ ap (λ b. cond s.is_open (cond b (weight (session_of s)) 0) 0) (other i within apart)
          ∙ if_zero s.is_open

-- no slot is of a line
module _ (slots : List Slot) (line : List ℕ) (none : (i : ℕ) → i < length slots → bytes_eq (slot_at slots i).line line ≡ false) where
  pub weight-off_none : (weight : Open → ℕ) → weight_in weight slots ≡ weight_in (off_line line weight) slots
  weight-off_none weight =
      sum_alike (weight_at weight) (weight_at (off_line line weight)) no_slot slots slots refl
      (λ i within. let s = slot_at slots i in ap (λ b. cond s.is_open (cond b 0 (weight (session_of s))) 0) (sym (none i within)))

  pub weight-on_none : (weight : Open → ℕ) → weight_in (on_line line weight) slots ≡ 0
  weight-on_none weight =
      sum_zero (weight_at (on_line line weight)) no_slot slots
      (λ i within. let s = slot_at slots i in ap (λ b. cond s.is_open (cond b (weight (session_of s)) 0) 0) (none i within) ∙ if_zero s.is_open)

-- a slot whose session has ended gets another
pub weight-begun : (weight : Open → ℕ) (slots : List Slot) (k : ℕ) (o : Open) → k < length slots → (slot_at slots k).is_open ≡ false → weight_in weight (set slots k (begun o)) ≡ weight_in weight slots + weight o
weight-begun weight slots k o lt over =
    let s = slot_at slots k in
    let none : weight_at weight s ≡ 0 = ap (λ b. cond b (weight (session_of s)) 0) over in
    omega (arith, sum_by-set (weight_at weight) slots k (begun o) no_slot lt, none)

-- a slot's session ends, and its line is not listed any more
pub weight-unlisted : (weight : Open → ℕ) (slots : List Slot) (k : ℕ) → k < length slots → weight_in weight (set slots k (unlisted (slot_at slots k))) + weight_at weight (slot_at slots k) ≡ weight_in weight slots
weight-unlisted weight slots k lt = omega (arith, sum_by-set (weight_at weight) slots k (unlisted (slot_at slots k)) no_slot lt)

-- where no line is listed, no session is open
pub weight-none : (weight : Open → ℕ) (slots : List Slot) → ((k : ℕ) → k < length slots → (slot_at slots k).is_open ≡ false) → weight_in weight slots ≡ 0
weight-none weight slots none = sum_zero (weight_at weight) no_slot slots (λ k lt. ap (λ (b : Bool). cond b (weight (session_of (slot_at slots k))) 0) (none k lt))

plus_zero : (n : ℕ) → n ≡ n + 0
plus_zero n = omega arith

weight-nothing : (slots : List Slot) → weight_in (λ o. 0) slots ≡ 0
weight-nothing slots = sum_zero (weight_at (λ o. 0)) no_slot slots (λ k lt. if_zero (slot_at slots k).is_open)

-- what a record leaves open and ends, by its event
module _ (slots : List Slot) (x : LoginRecord) (weight : Open → ℕ) (keeps : Bool) (asked : Asked) (now : ℤ) where
  by_event : Event → Open → ℕ
  by_event e o = cond (ends_event Login e (bytes_eq o.line x.line)) 0 (weight o)

  leaving_by : Event → Open → ℕ
  leaving_by e o = cond (ends_event Login e (bytes_eq o.line x.line)) (weighed keeps asked now x.time o) 0

  pub staying-login : event_of x ≡ Login → weight_in (off_line x.line weight) slots + weight (opened x now) ≡ weight_in (staying x weight) slots + opening x now weight
  unfolding by_event
  staying-login h = λ i. weight_in (by_event (sym h i)) slots + cond (is_login_event (sym h i)) (weight (opened x now)) 0

  pub leaving-login : event_of x ≡ Login → weight_in (on_line x.line (weighed keeps asked now x.time)) slots ≡ weight_in (leaving keeps asked now x) slots
  unfolding leaving_by
  leaving-login h = λ i. weight_in (leaving_by (sym h i)) slots

  pub staying-logout : event_of x ≡ Logout → weight_in (off_line x.line weight) slots ≡ weight_in (staying x weight) slots + opening x now weight
  unfolding by_event
  staying-logout h = plus_zero (weight_in (off_line x.line weight) slots) ∙ (λ i. weight_in (by_event (sym h i)) slots + cond (is_login_event (sym h i)) (weight (opened x now)) 0)

  pub leaving-logout : event_of x ≡ Logout → weight_in (on_line x.line (weighed keeps asked now x.time)) slots ≡ weight_in (leaving keeps asked now x) slots
  unfolding leaving_by
  leaving-logout h = λ i. weight_in (leaving_by (sym h i)) slots

  -- a boot and a shutdown leave nothing open
  pub staying-every : (e : Event) → event_of x ≡ e → ends_every_stay e ≡ true → 0 ≡ weight_in (staying x weight) slots + opening x now weight
  unfolding by_event
  staying-every e h every = none e every ∙ (λ i. weight_in (by_event (sym h i)) slots + cond (is_login_event (sym h i)) (weight (opened x now)) 0)
    where
      none : (e : Event) → ends_every_stay e ≡ true → 0 ≡ weight_in (by_event e) slots + cond (is_login_event e) (weight (opened x now)) 0
      none Boot t = let n = weight-nothing slots in omega (arith, n)
      none Down t = let n = weight-nothing slots in omega (arith, n)
      none Login t = absurd (false≢true t)
      none Logout t = absurd (false≢true t)
      none OldTime t = absurd (false≢true t)
      none NewTime t = absurd (false≢true t)
      none Nothing t = absurd (false≢true t)

  pub leaving-every : (e : Event) → event_of x ≡ e → ends_every_stay e ≡ true → weight_in (weighed keeps asked now x.time) slots ≡ weight_in (leaving keeps asked now x) slots
  unfolding leaving_by
  leaving-every e h every = all e every ∙ (λ i. weight_in (leaving_by (sym h i)) slots)
    where
      all : (e : Event) → ends_every_stay e ≡ true → weight_in (weighed keeps asked now x.time) slots ≡ weight_in (leaving_by e) slots
      all Boot t = refl
      all Down t = refl
      all Login t = absurd (false≢true t)
      all Logout t = absurd (false≢true t)
      all OldTime t = absurd (false≢true t)
      all NewTime t = absurd (false≢true t)
      all Nothing t = absurd (false≢true t)

  -- what ends no stay leaves all as it is
  pub staying-other : (e : Event) → event_of x ≡ e → ends_every_stay e ≡ false → ends_line_stay e ≡ false → weight_in weight slots ≡ weight_in (staying x weight) slots + opening x now weight
  unfolding by_event
  staying-other e h every line = all e every line ∙ (λ i. weight_in (by_event (sym h i)) slots + cond (is_login_event (sym h i)) (weight (opened x now)) 0)
    where
      all : (e : Event) → ends_every_stay e ≡ false → ends_line_stay e ≡ false → weight_in weight slots ≡ weight_in (by_event e) slots + cond (is_login_event e) (weight (opened x now)) 0
      all OldTime a b = plus_zero (weight_in weight slots)
      all NewTime a b = plus_zero (weight_in weight slots)
      all Nothing a b = plus_zero (weight_in weight slots)
      all Login a b = absurd (false≢true (sym b))
      all Logout a b = absurd (false≢true (sym b))
      all Boot a b = absurd (false≢true (sym a))
      all Down a b = absurd (false≢true (sym a))

  pub leaving-other : (e : Event) → event_of x ≡ e → ends_every_stay e ≡ false → ends_line_stay e ≡ false → 0 ≡ weight_in (leaving keeps asked now x) slots
  unfolding leaving_by
  leaving-other e h every line = none e every line ∙ (λ i. weight_in (leaving_by (sym h i)) slots)
    where
      none : (e : Event) → ends_every_stay e ≡ false → ends_line_stay e ≡ false → 0 ≡ weight_in (leaving_by e) slots
      none OldTime a b = sym (weight-nothing slots)
      none NewTime a b = sym (weight-nothing slots)
      none Nothing a b = sym (weight-nothing slots)
      none Login a b = absurd (false≢true (sym b))
      none Logout a b = absurd (false≢true (sym b))
      none Boot a b = absurd (false≢true (sym a))
      none Down a b = absurd (false≢true (sym a))

-- no more sessions are open than there are slots
pub open-few : (slots : List Slot) → open_count slots ≤ length slots
open-few [] = omega arith
open-few (s ∷ ss) = let rest = open-few ss in let own = by s.is_open in omega (arith, rest, own, sum_by-cons (weight_at one) s ss)
  where
    by : (b : Bool) → cond {A = ℕ} b 1 0 ≤ 1
    by true = omega arith
    by false = omega arith

-- a sum as it is seen from outside
pub sum-seen : (c : Counted) (ended : Ended) (asked : Asked) → c.users ≡ ended.sums.users.entries → c.total ≡ ended.sums.all → c.keeps_sessions ≡ ended.keeps_sessions → c.sessions ≡ sessions_in ended
    → counted c asked ≡ measured ended asked
sum-seen c ended (Seconds None) users total keeps sessions = total
sum-seen c ended (Seconds (Some user)) users total keeps sessions = ap (λ es. unwrap_or (lookup (bytes_eq user) es) 0) users
sum-seen c ended (Weight weight) users total keeps sessions = λ i. cond (keeps i) (sum_by weight (sessions i)) 0

-- the seconds of a slot's session are those of its user
pub own-seconds : (now time : ℤ) (s : Slot) (user : List ℕ) → cond (is_eq (slice_cmp nat_cmp s.user user)) (weight_at (seconds_at None now time) s) 0 ≡ weight_at (seconds_at (Some user) now time) s
own-seconds now time s user =
    ap (λ b. cond b (weight_at (seconds_at None now time) s) 0) (is_eq-slice_cmp s.user user)
    ∙ by (bytes_eq s.user user) s.is_open
  where
    by : (b o : Bool) → cond b (cond o (length_at now time (session_of s)) 0) 0 ≡ cond o (cond b (length_at now time (session_of s)) 0) 0
    by true true = refl
    by true false = refl
    by false true = refl
    by false false = refl

-- what a record has at a place
pub found : {X : Type 0} (f : LoginRecord → X) (o : Option X) (at : Option LoginRecord) (v : X) (x : LoginRecord) → o ≡ option_map f at → at ≡ Some x → o ≡ Some v → v ≡ f x
found f o at v x read there is = let e : Some v ≡ Some (f x) = sym is ∙ read ∙ ap (option_map f) there in cc
