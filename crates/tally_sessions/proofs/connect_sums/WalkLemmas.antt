-- What is left of the sessions of a count after one of them.
use Rattle.std.proofs.Common.{◌≡◌, ◌∙◌, ◌+◌, ◌<◌, ℕ, zero, suc, Bool, true, false, cond, List, [], ◌∷◌, Option, None, Some, drop, get_or, length, map, refl, sym, ap, arith}
use Rattle.std.proofs.lemmas.List.{at_drop_more, drop-map}
use Rattle.std.proofs.lemmas.List.Sums.{sum_by-cons}
use Rattle.std.specs.Map.{keys_of}
use Rattle.std.specs.Prelude.{IfSome, slice_get}
use Rattle.tally_sessions.specs.declared.connect_sums.ended.EndedSession.{EndedSession}
use Rattle.tally_sessions.specs.declared.connect_sums.slot.Slot.{Slot}
use Rattle.tally_sessions.specs.declared.sums.Session.{Session}
use Rattle.tally_sessions.specs.inside.Ended as kept
use Rattle.tally_sessions.specs.inside.Slots.{one, open_count, opens_in, session_of, weight_at}

-- the name of an entry is the key at its place
name_at : (es : List (List ℕ × ℕ)) (place : ℕ) (e : List ℕ × ℕ) → slice_get es place ≡ Some e → get_or (keys_of es) place [] ≡ e.0
name_at [] place e h = cc
name_at (x ∷ es) zero e h = let same : x ≡ e = cc in ap (λ (y : List ℕ × ℕ). y.0) same
name_at (x ∷ es) (suc place) e h = name_at es place e h

-- one that has ended
pub ended-next : (users : List (List ℕ × ℕ)) (ss : List EndedSession) (k : ℕ) (s : EndedSession) (e : List ℕ × ℕ) → k < length ss → s ≡ get_or ss k s → slice_get users s.user ≡ Some e
    → (x : Session) → x ≡ record { user = e.0; begin = s.begin; end_time = s.end_time }
    → drop k (map (kept.session_of users) ss) ≡ x ∷ drop (k + 1) (map (kept.session_of users) ss)
ended-next users ss k s e within here found x is =
    let f = kept.session_of users in
    drop-map f k ss
    ∙ at_drop_more (map f) ss k s within
    ∙ (λ i. f (sym here i) ∷ map f (drop (k + 1) ss))
    ∙ (λ i. record { user = name_at users s.user e found i; begin = s.begin; end_time = s.end_time } ∷ map f (drop (k + 1) ss))
    ∙ (λ i. sym is i ∷ sym (drop-map f (k + 1) ss) i)

-- a line without an open session is passed
pub open-passed : (slots : List Slot) (k : ℕ) (s : Slot) → k < length slots → s ≡ get_or slots k s → s.is_open ≡ false → opens_in (drop k slots) ≡ opens_in (drop (k + 1) slots)
open-passed slots k s within here over =
    let rest = opens_in (drop (k + 1) slots) in
    at_drop_more opens_in slots k s within ∙ (λ i. cond (sym here i).is_open (session_of (sym here i) ∷ rest) rest) ∙ ap (λ b. cond b (session_of s ∷ rest) rest) over

-- one that is open
pub open-next : (slots : List Slot) (k : ℕ) (s : Slot) → k < length slots → s ≡ get_or slots k s → s.is_open ≡ true → opens_in (drop k slots) ≡ session_of s ∷ opens_in (drop (k + 1) slots)
open-next slots k s within here still =
    let rest = opens_in (drop (k + 1) slots) in
    at_drop_more opens_in slots k s within ∙ (λ i. cond (sym here i).is_open (session_of (sym here i) ∷ rest) rest) ∙ ap (λ b. cond b (session_of s ∷ rest) rest) still

-- how many are open
pub opens-count : (slots : List Slot) → length (opens_in slots) ≡ open_count slots
opens-count [] = refl
opens-count (s ∷ ss) = by s.is_open (opens-count ss) ∙ sym (sum_by-cons (weight_at one) s ss)
  where
    by : (b : Bool) → length (opens_in ss) ≡ open_count ss → length (cond b (session_of s ∷ opens_in ss) (opens_in ss)) ≡ cond b 1 0 + open_count ss
    by true rest = omega (arith, rest)
    by false rest = omega (arith, rest)

-- what follows of each follows of the one that there is
pub some-weaker : {X : Type 0} (o : Option X) (P Q : X → Type 0) → ((x : X) → P x → Q x) → IfSome o P → IfSome o Q
some-weaker None P Q f h = h
some-weaker (Some x) P Q f h = f x h
