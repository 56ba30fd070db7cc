-- Questions that are asked one after another, and in rounds.
use Rattle.std.proofs.Common.{◌≡◌, ◌∙◌, ◌+◌, ◌-◌, ◌*◌, ◌<◌, ◌≤◌, ◌++◌, ◌∷◌, [], ℕ, suc, List, length, map, take, drop, get_or, replicate, ap, sym, subst, arith, append_assoc}
use Rattle.std.proofs.lemmas.List.{append-nil, drop_more, map-append, replicate-append-replicate, take_all, take_more, take-append-drop}
use Rattle.std.proofs.Math.Nat.{mul-le-mul_left}
use Rattle.std.proofs.lemmas.List.Concat.{flat_map-append}
use Rattle.std.specs.List.{flat_map}
use Rattle.tally_book.specs.Deeds.{Deed, Ask}
use Rattle.tally_book.specs.Refusals.{IsAskRefusal}
use Rattle.tally_answers.specs.declared.question.Question.{Question}
use Rattle.tally_book.specs.declared.fault.AskFault.{AskFault}
use Rattle.tally_desk.specs.Passes.{PassState, deeds}
use Rattle.tally_desk.specs.Rounds.{AskStops, Asks, in_rounds}

joined_rounds : (xs ys : List (List Question)) → flat_map (λ round. round) (xs ++ ys) ≡ flat_map (λ round. round) xs ++ flat_map (λ round. round) ys
joined_rounds xs ys = flat_map-append (λ (x : List Question). x) xs ys

pub rounds_more : (n : ℕ) (qs : List Question) → in_rounds (n + 1) qs ≡ in_rounds n qs ++ qs
rounds_more n qs =
    ap (flat_map (λ (x : List Question). x)) (sym (replicate-append-replicate n 1 qs))
    ∙ (joined_rounds (replicate n qs) (qs ∷ []) ∙ ap (λ l. in_rounds n qs ++ l) (append-nil qs))

rounds_split : (n rounds : ℕ) (qs : List Question) → n < rounds → in_rounds rounds qs ≡ in_rounds n qs ++ (qs ++ in_rounds (rounds - n - 1) qs)
rounds_split n rounds qs before =
    let m : ℕ = rounds - n - 1 in
    let all : rounds ≡ n + suc m = omega arith in
    ap (λ k. in_rounds k qs) all
    ∙ (ap (flat_map (λ (x : List Question). x)) (sym (replicate-append-replicate n (suc m) qs)) ∙ joined_rounds (replicate n qs) (qs ∷ replicate m qs))

pub asks_more : (p q r : PassState) (xs ys : List Question) → Asks p q xs → Asks q r ys → Asks p r (xs ++ ys)
asks_more p q r xs ys first next =
    next
    ∙ ap (λ (ds : List Deed). ds ++ map Ask ys) first
    ∙ append_assoc (deeds p) (map Ask xs) (map Ask ys)
    ∙ ap (λ (ds : List Deed). deeds p ++ ds) (sym (map-append Ask xs ys))

pub asks_all : (p q : PassState) (qs : List Question) (n : ℕ) → length qs ≤ n → Asks p q (take n qs) → Asks p q qs
asks_all p q qs n long first = subst (Asks p q) (take_all n qs long) first

module _ (p q r : PassState) (qs : List Question) (at : ℕ) (other : Question) (before : at < length qs) (first : Asks p q (take at qs)) where
  -- it was answered
  pub asks_next : deeds r ≡ deeds q ++ Ask (get_or qs at other) ∷ [] → Asks p r (take (at + 1) qs)
  asks_next did = subst (Asks p r) (sym (take_more qs at other before)) (asks_more p q r (take at qs) (get_or qs at other ∷ []) first did)

  -- it was refused
  pub stops_here : (f : AskFault) → deeds r ≡ deeds q → IsAskRefusal r.seen.callers (length r.seen.calls) (get_or qs at other) f → AskStops qs p r f
  stops_here f same cause = record {
    done = take at qs;
    next = get_or qs at other;
    left = drop (at + 1) qs;
    order = sym (take-append-drop at qs) ∙ ap (λ l. take at qs ++ l) (drop_more qs at other before);
    some = same ∙ first;
    cause = cause;
  }

-- a question of the round after n rounds was refused
pub stops_round : (p q r : PassState) (qs : List Question) (n rounds : ℕ) (f : AskFault) → n < rounds → Asks p q (in_rounds n qs) → AskStops qs q r f → AskStops (in_rounds rounds qs) p r f
stops_round p q r qs n rounds f before first stops =
    let front = in_rounds n qs in
    let rest = in_rounds (rounds - n - 1) qs in
    record {
      done = front ++ stops.done;
      next = stops.next;
      left = stops.left ++ rest;
      order = rounds_split n rounds qs before
          ∙ (ap (λ l. front ++ (l ++ rest)) stops.order
          ∙ (ap (λ l. front ++ l) (append_assoc stops.done (stops.next ∷ stops.left) rest)
          ∙ sym (append_assoc front stops.done (stops.next ∷ (stops.left ++ rest)))));
      some = asks_more p q r front stops.done first stops.some;
      cause = stops.cause;
    }

-- a round of so many questions has room
pub round_fits : (long n rounds turn : ℕ) → turn ≡ long * n → n < rounds → long * rounds ≤ 65536 → turn + long ≤ 65536
round_fits long n rounds turn is before few =
    let most : long * (n + 1) ≤ long * rounds = mul-le-mul_left long (omega arith) in
    let next : long * (n + 1) ≡ long * n + long = omega arith in
    omega arith

-- the turn of the next round
pub next_round : (long n turn next : ℕ) → turn ≡ long * n → next ≡ turn + long → next ≡ long * (n + 1)
next_round long n turn next is more =
    let one : long * (n + 1) ≡ long * n + long = omega arith in
    omega arith

-- the turn of the next question
pub one_more_turn : (next turn at : ℕ) → next ≡ turn + at → next + 1 ≡ turn + (at + 1)
one_more_turn next turn at is = omega arith
