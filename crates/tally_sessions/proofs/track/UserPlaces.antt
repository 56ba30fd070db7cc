-- The places of the users that a choice names.
use Rattle.std.proofs.Common.{◌≡◌, inl, inr, ℕ, suc, ◌<◌, Bool, true, false, ◌||◌, List, [], ◌∷◌, get_or, length, Option, Some, None, refl, sym, ap, subst, ◌∙◌, arith}
use Rattle.std.proofs.lemmas.Bool.{cases_lt, false≢true}
use Rattle.std.proofs.lemmas.Bool.Decides.{nat_tests}
use Rattle.std.proofs.lemmas.Cmp.{nat_list_eq_equiv}
use Rattle.std.proofs.lemmas.Map.Keys.{apart_from_distinct}
use Rattle.std.proofs.lemmas.Map.Views.{IsSome-lookup_from_Contains}
use Rattle.std.proofs.lemmas.Option.{get_or_from_slice_get, slice_get_within}
use Rattle.std.proofs.lemmas.Slice.Eq.{bytes_eq-Decides}
use Rattle.std.specs.Cmp.{both_ways}
use Rattle.std.specs.List.{IsDistinct, list_any}
use Rattle.std.specs.Map.{keys_of, lookup}
use Rattle.std.specs.Option.{IsSome}
use Rattle.std.specs.Prelude.{bytes_eq, nat_eq, slice_get}
use Rattle.tally_records.specs.Choice.{is_name}
use Rattle.tally_sessions.specs.inside.Numbers.{Numbers, StandsAt}

test_of : (a b : ℕ) → a ≡ b → nat_eq a b ≡ true
test_of a b e = grind (arith, nat_tests)

of_test : (a b : ℕ) → nat_eq a b ≡ true → a ≡ b
of_test a b e = grind (arith, nat_tests)

not_after : (ks : List (List ℕ)) (i j : ℕ) (name : List ℕ) → IsDistinct bytes_eq ks → slice_get ks i ≡ Some name → slice_get ks j ≡ Some name → i < j → ⊥
not_after ks i j name distinct at later lt =
    let differ : bytes_eq name name ≡ false =
    (λ k. bytes_eq (sym (get_or_from_slice_get ks i name [] at) k) (sym (get_or_from_slice_get ks j name [] later) k))
    ∙ apart_from_distinct bytes_eq ks i j [] distinct lt (slice_get_within ks j name later) in
    false≢true (sym differ ∙ (bytes_eq-Decides name name).1 refl)

-- a name stands at one place alone
one_place : (ks : List (List ℕ)) (i j : ℕ) (name : List ℕ) → IsDistinct bytes_eq ks → slice_get ks i ≡ Some name → slice_get ks j ≡ Some name → i ≡ j
one_place ks i j name distinct at other = elim (cases_lt i j) [
  | inl lt ↦ absurd (not_after ks i j name distinct at other lt)
  | inr le ↦ elim (cases_lt j i) [
    | inl lt ↦ absurd (not_after ks j i name distinct other at lt)
    | inr ge ↦ omega (arith, le, ge)
  ]
]

pub place_is : (users : Numbers) (place p : ℕ) (name user : List ℕ) → IsDistinct bytes_eq (keys_of users.entries) → StandsAt users place name → StandsAt users p user → nat_eq place p ≡ bytes_eq name user
place_is users place p name user distinct at other =
    both_ways (nat_eq place p) (bytes_eq name user)
    (λ e.
    let same : Some name ≡ Some user = sym at ∙ ap (slice_get (keys_of users.entries)) (of_test place p e) ∙ other in
    (bytes_eq-Decides name user).1 (let names : name ≡ user = cc in names))
    (λ e. test_of place p (one_place (keys_of users.entries) place p name distinct at (other ∙ ap Some (sym ((bytes_eq-Decides name user).0 e)))))

-- a place before one is another
pub before_is : (a b : ℕ) → b < a → nat_eq a b ≡ false
before_is a b lt = grind (arith, nat_tests)

-- a name that the table does not have is of no place
pub unknown_is : (users : Numbers) (p : ℕ) (name user : List ℕ) → lookup (bytes_eq name) users.entries ≡ None → StandsAt users p user → bytes_eq name user ≡ false
unknown_is users p name user absent at = by (bytes_eq name user) refl
  where
    ks : List (List ℕ)
    ks = keys_of users.entries

    by : (b : Bool) → bytes_eq name user ≡ b → bytes_eq name user ≡ false
    by false e = e
    by true e =
        let own : slice_get ks p ≡ Some name = at ∙ ap Some (sym ((bytes_eq-Decides name user).0 e)) in
        let found : IsSome (lookup (bytes_eq name) users.entries) =
        IsSome-lookup_from_Contains nat_list_eq_equiv name users.entries (p, slice_get_within ks p name own, get_or_from_slice_get ks p name name own) in
        absurd (false≢true (subst (λ (o : Option ℕ). IsSome o) absent found))

-- places that are those of names, one by one
pub any_alike : (user : List ℕ) (p : ℕ) (places : List ℕ) (names : List (Option (List ℕ))) → length places ≡ length names
    → ((k : ℕ) → k < length names → nat_eq (get_or places k 0) p ≡ is_name user (get_or names k None)) → list_any (λ q. nat_eq q p) places ≡ list_any (is_name user) names
any_alike user p [] [] len each = refl
any_alike user p [] (n ∷ names) len each = absurd (omega (arith, len))
any_alike user p (q ∷ places) [] len each = absurd (omega (arith, len))
any_alike user p (q ∷ places) (n ∷ names) len each =
    λ i. each 0 (omega arith) i || any_alike user p places names (omega (arith, len)) (λ k lt. each (suc k) (omega (arith, lt))) i
