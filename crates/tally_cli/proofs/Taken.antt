-- Tasks that are taken back one by one.
use Rattle.std.proofs.Common.{◌≡◌, ◌⊎◌, suc, ◌+◌, List, [], ◌∷◌, ◌++◌, Option, Some, None, length, map, refl, sym, ap, ◌∙◌, subst, arith, length-append, ⊎_elim}
use Rattle.std.proofs.lemmas.List.{append_assoc, map-append}
use Rattle.std.proofs.lemmas.List.Sums.{sum_by-append, sum_by-cons}
use Rattle.std.proofs.lemmas.Grind.{flat_map-append}
use Rattle.std.proofs.lemmas.List.Elements.{All-cons, All-push, All-weaker, Contains-append_left, Contains-push}
use Rattle.std.specs.List.{Contains, flat_map, sum_by}
use Rattle.std.specs.Prelude.{IfSome}
use Rattle.tally_desk.specs.Passes.{PassState}
use Rattle.tally_cli.specs.declared.running.gather.Failure.{Failure}
use Rattle.tally_cli.specs.declared.running.task.Task.{Task}
use Rattle.tally_cli.specs.inside.Failures.{AreTaken, AtMost, IsLeast, IsOfOne, IsPassOfOne, failure_of}

contains_head : {A : Type 0} (x : A) (xs : List A) → Contains (x ∷ xs) x
contains_head x xs = (0, omega arith, refl)

contains_cons : {A : Type 0} (y : A) (xs : List A) (x : A) → Contains xs x → Contains (y ∷ xs) x
contains_cons y xs x h = (suc h.0, omega (arith, h.1), h.2)

at_most_more : (one two three : Option Failure) → AtMost one two → AtMost two three → AtMost one three
at_most_more one two None h k = tt
at_most_more one None (Some three) h k = absurd k
at_most_more None (Some two) (Some three) h k = absurd h
at_most_more (Some one) (Some two) (Some three) h k = omega (arith, h, k)

some_cons : {I : Type 0} (t : Task I) (ts : List (Task I)) (failure : Option Failure) → IfSome failure (IsOfOne ts) → IfSome failure (IsOfOne (t ∷ ts))
some_cons t ts None h = tt
some_cons t ts (Some failure) h = (h.0, contains_cons t ts h.0 h.1, h.2)

some_own : {I : Type 0} (t : Task I) (ts : List (Task I)) (failure : Option Failure) → failure_of t.pass.number t.outcome ≡ failure → IfSome failure (IsOfOne (t ∷ ts))
some_own t ts None e = tt
some_own t ts (Some failure) e = (t, contains_head t ts, e)

-- one more task: the lesser of its failure and that of the others
pub least_more : {I : Type 0} (t : Task I) (ts : List (Task I)) (known own new : Option Failure) → own ≡ failure_of t.pass.number t.outcome → (new ≡ own) ⊎ (new ≡ known) → AtMost new own → AtMost new known
    → IsLeast ts known → IsLeast (t ∷ ts) new
least_more t ts known own new is among first second h = record {
  least = All-cons (λ (x : Task _). AtMost new (failure_of x.pass.number x.outcome)) t ts (subst (AtMost new) is first)
      (All-weaker (λ (x : Task _). AtMost known (failure_of x.pass.number x.outcome)) (λ (x : Task _). AtMost new (failure_of x.pass.number x.outcome))
      (λ x k. at_most_more new known (failure_of x.pass.number x.outcome) second k) ts h.least);
  some = ⊎_elim
      (λ (e : new ≡ own). some_own t ts new (sym is ∙ sym e))
      (λ (e : new ≡ known). some_cons t ts new (subst (λ f. IfSome f (IsOfOne ts)) (sym e) h.some))
      among;
}

-- one more task is taken back
pub taken_more : {I : Type 0} (t : Task I) (ts : List (Task I)) (passes : List PassState) (known own new : Option Failure) → own ≡ failure_of t.pass.number t.outcome → (new ≡ own) ⊎ (new ≡ known) → AtMost new own → AtMost new known
    → AreTaken ts passes known → AreTaken (t ∷ ts) (passes ++ t.pass ∷ []) new
taken_more {I} t ts passes known own new is among first second h = record {
  held = All-cons (λ (x : Task I). Contains (passes ++ t.pass ∷ []) x.pass) t ts (Contains-push passes t.pass)
      (All-weaker (λ (x : Task I). Contains passes x.pass) (λ (x : Task I). Contains (passes ++ t.pass ∷ []) x.pass) (λ x k. Contains-append_left passes (t.pass ∷ []) x.pass k) ts h.held);
  own = All-push (IsPassOfOne (t ∷ ts)) passes t.pass
      (All-weaker (IsPassOfOne ts) (IsPassOfOne (t ∷ ts)) (λ p k. (k.0, contains_cons t ts k.0 k.1, k.2)) passes h.own)
      (t, contains_head t ts, refl);
  count = length-append passes (t.pass ∷ []) ∙ omega (arith, h.count);
  least = least_more t ts known own new is among first second h.least;
}

pub order_more : {A : Type 0} (all xs now : List A) (x : A) (later : List A) → all ≡ xs ++ later → xs ≡ now ++ x ∷ [] → all ≡ now ++ x ∷ later
order_more all xs now x later e f = e ∙ ap (λ l. l ++ later) f ∙ append_assoc now (x ∷ []) later

-- tasks were popped from all of them, and taken back after those that were taken before
abbrev pub ArePopped : {I : Type 0} → List (Task I) → List PassState → Option Failure → List (Task I) → List PassState → Option Failure → Type 0
ArePopped {I} all old start left passes failure = (later : List (Task I)) × (all ≡ left ++ later)
    × ((done : List (Task I)) → AreTaken done old start → AreTaken (later ++ done) passes failure)

-- one more task is popped, and taken back
pub popped_more : {I : Type 0} {all left : List (Task I)} {old passes new : List PassState} {start known own failure : Option Failure} (now : List (Task I)) (t : Task I)
    → ArePopped all old start left passes known → left ≡ now ++ t ∷ [] → new ≡ passes ++ t.pass ∷ [] → own ≡ failure_of t.pass.number t.outcome
    → (failure ≡ own) ⊎ (failure ≡ known) → AtMost failure own × AtMost failure known → ArePopped all old start now new failure
popped_more {all = all} {left = left} {passes = passes} {known = known} {own = own} {failure = failure} now t popped items pushed is among least = (
  t ∷ popped.0,
  order_more all left now t popped.0 popped.1 items,
  λ done before. subst (λ ps. AreTaken (t ∷ popped.0 ++ done) ps failure) (sym pushed)
      (taken_more t (popped.0 ++ done) passes known own failure is among least.0 least.1 (popped.2 done before)),
)

pub flat_more : {V A : Type 0} (f : V → List A) (vs now : List V) (v : V) (done : List A) → vs ≡ now ++ v ∷ [] → flat_map f vs ++ done ≡ flat_map f now ++ (f v ++ done)
flat_more f vs now v done e =
    ap (λ l. flat_map f l ++ done) e
    ∙ ap (λ l. l ++ done) (flat_map-append f now (v ∷ []))
    ∙ append_assoc (flat_map f now) (flat_map f (v ∷ [])) done
    ∙ ap (λ l. flat_map f now ++ l) (append_assoc (f v) [] done)

pub sum_more : {V A : Type 0} (f : V → List A) (vs now : List V) (v : V) → vs ≡ now ++ v ∷ [] → sum_by length (map f vs) ≡ sum_by length (map f now) + length (f v)
sum_more f vs now v e =
    ap (λ l. sum_by length (map f l)) e
    ∙ ap (sum_by length) (map-append f now (v ∷ []))
    ∙ sum_by-append length (map f now) (f v ∷ [])
    ∙ omega (arith, sum_by-cons length (f v) [])
