-- That `in_order` is the one ascending list of the same items.
use Rattle.std.proofs.Common.{◌≡◌, ◌+◌, false, cond, List, [], ◌∷◌, get_or, refl, sym, ap, subst, ◌∙◌, inl, inr, ◌⊎◌, arith}
use Rattle.std.specs.Cmp.{IsTotalOrder, tied_itself}
use Rattle.std.specs.List.{AllByRecursion, IsDistinct}
use Rattle.std.specs.List.Sorted.{IsSortedBy, IsStrictlySortedBy}
use Rattle.std.specs.Ordering.{is_lt, is_eq, eq_by_cmp, ordering_reverse}
use Rattle.std.specs.declared.cmp.Ordering.{Ordering}
use Rattle.std.specs.declared.cmp.Ordering.TheVariants.{Less, Equal, Greater}
use Rattle.std.proofs.lemmas.Map.Keys.{apart_from_distinct, sorted_from_all_adjacent}
use Rattle.tally_records.specs.Sorted.{in_order, insert_in_order}
use Rattle.tally_records.proofs.Members.{Member, All-Member}

module _ {X : Type 0} {cmp : X → X → Ordering} (o : IsTotalOrder cmp) where
  abbrev Above : X → List X → Type 0
  Above x ys = AllByRecursion (λ y. cmp x y ≡ Less) ys

  above_all : (x y : X) (ys : List X) → cmp x y ≡ Less → Above y ys → Above x ys
  above_all x y [] l all = tt
  above_all x y (z ∷ zs) l all = (o.trans x y z l all.0, above_all x y zs l all.1)

  flipped : (x y : X) → cmp x y ≡ Greater → cmp y x ≡ Less
  flipped x y e = o.antisymm y x ∙ ap ordering_reverse e

  never : (x : X) → cmp x x ≡ Less → ⊥
  never x e = let d : Less ≡ Equal = sym e ∙ tied_itself o x in cc

  both_less : (x y : X) → cmp x y ≡ Less → cmp y x ≡ Less → ⊥
  both_less x y e f = never x (o.trans x y x e f)

  insert-All : (P : X → Type 0) (x : X) (ys : List X) → P x → AllByRecursion P ys → AllByRecursion P (insert_in_order cmp x ys)
  unfolding insert_in_order
  insert-All P x [] p all = (p, tt)
  insert-All P x (y ∷ ys) p all = elim (cmp x y) as (λ r. AllByRecursion P (cond (is_lt r) (x ∷ y ∷ ys) (cond (is_eq r) (y ∷ ys) (y ∷ insert_in_order cmp x ys)))) [
    | Less ↦ (p, all)
    | Equal ↦ all
    | Greater ↦ (all.0, insert-All P x ys p all.1)
  ]

  insert-ascends : (x : X) (ys : List X) → IsStrictlySortedBy cmp ys → IsStrictlySortedBy cmp (insert_in_order cmp x ys)
  unfolding insert_in_order IsStrictlySortedBy
  insert-ascends x [] up = (tt, tt)
  insert-ascends x (y ∷ ys) up = elim (cmp x y) as (λ r. cmp x y ≡ r → IsStrictlySortedBy cmp (cond (is_lt r) (x ∷ y ∷ ys) (cond (is_eq r) (y ∷ ys) (y ∷ insert_in_order cmp x ys)))) [
    | Less ↦ λ e. ((e, above_all x y ys e up.0), up)
    | Equal ↦ λ e. up
    | Greater ↦ λ e. (insert-All (λ z. cmp y z ≡ Less) x ys (flipped x y e) up.0, insert-ascends x ys up.1)
  ] refl

  pub in_order-ascends : (xs : List X) → IsStrictlySortedBy cmp (in_order cmp xs)
  unfolding in_order IsStrictlySortedBy
  in_order-ascends [] = tt
  in_order-ascends (x ∷ xs) = insert-ascends x (in_order cmp xs) (in_order-ascends xs)

  insert-from : (x z : X) (ys : List X) → Member z (insert_in_order cmp x ys) → (z ≡ x) ⊎ Member z ys
  unfolding insert_in_order
  insert-from x z [] h = h
  insert-from x z (y ∷ ys) h = elim (cmp x y) as (λ r. Member z (cond (is_lt r) (x ∷ y ∷ ys) (cond (is_eq r) (y ∷ ys) (y ∷ insert_in_order cmp x ys))) → (z ≡ x) ⊎ Member z (y ∷ ys)) [
    | Less ↦ λ h. h
    | Equal ↦ λ h. inr h
    | Greater ↦ λ h. elim h [ inl e ↦ inr (inl e) | inr m ↦ elim (insert-from x z ys m) [ inl e ↦ inl e | inr n ↦ inr (inr n) ] ]
  ] h

  insert-keeps : (x z : X) (ys : List X) → Member z ys → Member z (insert_in_order cmp x ys)
  unfolding insert_in_order
  insert-keeps x z [] h = absurd h
  insert-keeps x z (y ∷ ys) h = elim (cmp x y) as (λ r. Member z (cond (is_lt r) (x ∷ y ∷ ys) (cond (is_eq r) (y ∷ ys) (y ∷ insert_in_order cmp x ys)))) [
    | Less ↦ inr h
    | Equal ↦ h
    | Greater ↦ elim h [ inl e ↦ inl e | inr m ↦ inr (insert-keeps x z ys m) ]
  ]

  insert-has : (x : X) (ys : List X) → ((y : X) → Member y ys → cmp x y ≡ Equal → x ≡ y) → Member x (insert_in_order cmp x ys)
  unfolding insert_in_order
  insert-has x [] ties = inl refl
  insert-has x (y ∷ ys) ties = elim (cmp x y) as (λ r. cmp x y ≡ r → Member x (cond (is_lt r) (x ∷ y ∷ ys) (cond (is_eq r) (y ∷ ys) (y ∷ insert_in_order cmp x ys)))) [
    | Less ↦ λ e. inl refl
    | Equal ↦ λ e. inl (ties y (inl refl) e)
    | Greater ↦ λ e. inr (insert-has x ys (λ z m. ties z (inr m)))
  ] refl

  pub in_order-from : (z : X) (xs : List X) → Member z (in_order cmp xs) → Member z xs
  unfolding in_order
  in_order-from z [] h = h
  in_order-from z (x ∷ xs) h = elim (insert-from x z (in_order cmp xs) h) [ inl e ↦ inl e | inr m ↦ inr (in_order-from z xs m) ]

  -- items that tie are equal
  abbrev pub TiesAreEqual : List X → Type 0
  TiesAreEqual xs = (x y : X) → Member x xs → Member y xs → cmp x y ≡ Equal → x ≡ y

  pub in_order-has : (z : X) (xs : List X) → TiesAreEqual xs → Member z xs → Member z (in_order cmp xs)
  unfolding in_order
  in_order-has z [] ties h = h
  in_order-has z (x ∷ xs) ties h = elim h [
    | inl e ↦ subst (λ w. Member w (insert_in_order cmp x (in_order cmp xs))) (sym e) (insert-has x (in_order cmp xs) (λ y m. ties x y (inl refl) (inr (in_order-from y xs m))))
    | inr m ↦ insert-keeps x z (in_order cmp xs) (in_order-has z xs (λ a b p q. ties a b (inr p) (inr q)) m)
  ]

  -- two ascending lists of the same items are one list
  pub ascending_unique : (xs ys : List X) → IsStrictlySortedBy cmp xs → IsStrictlySortedBy cmp ys → ((z : X) → Member z xs → Member z ys) → ((z : X) → Member z ys → Member z xs) → xs ≡ ys
  unfolding IsStrictlySortedBy
  ascending_unique [] [] up up' to back = refl
  ascending_unique [] (y ∷ ys) up up' to back = absurd (back y (inl refl))
  ascending_unique (x ∷ xs) [] up up' to back = absurd (to x (inl refl))
  ascending_unique (x ∷ xs) (y ∷ ys) up up' to back =
      let same : x ≡ y =
      elim (to x (inl refl)) as (λ _. x ≡ y) [
        | inl e ↦ e
        | inr m ↦ elim (back y (inl refl)) as (λ _. x ≡ y) [
          | inl e ↦ sym e
          | inr n ↦ absurd (both_less x y (All-Member (λ z. cmp x z ≡ Less) xs y up.0 n) (All-Member (λ z. cmp y z ≡ Less) ys x up'.0 m))
        ]
      ] in
      let rest : xs ≡ ys = ascending_unique xs ys up.1 up'.1
      (λ z m. elim (to z (inr m)) as (λ _. Member z ys) [
        | inl e ↦ absurd (never x (subst (λ w. cmp x w ≡ Less) (e ∙ sym same) (All-Member (λ w. cmp x w ≡ Less) xs z up.0 m)))
        | inr n ↦ n
      ])
      (λ z m. elim (back z (inr m)) as (λ _. Member z xs) [
        | inl e ↦ absurd (never y (subst (λ w. cmp y w ≡ Less) (e ∙ same) (All-Member (λ w. cmp y w ≡ Less) ys z up'.0 m)))
        | inr n ↦ n
      ]) in
      λ i. same i ∷ rest i

  -- an ascending list of the same items is `in_order`
  pub is_in_order : (xs ys : List X) → TiesAreEqual xs → IsStrictlySortedBy cmp ys → ((z : X) → Member z ys → Member z xs) → ((z : X) → Member z xs → Member z ys) → ys ≡ in_order cmp xs
  is_in_order xs ys ties up to back =
      ascending_unique ys (in_order cmp xs) up (in_order-ascends xs) (λ z m. in_order-has z xs ties (to z m)) (λ z m. back z (in_order-from z xs m))

  less_from : (r s : Ordering) → r ≡ ordering_reverse s → is_lt s ≡ false → is_eq r ≡ false → r ≡ Less
  less_from Less s e f g = refl
  less_from Equal s e f g = cc
  less_from Greater Less e f g = cc
  less_from Greater Equal e f g = cc
  less_from Greater Greater e f g = cc

  -- what a sort leaves ascends, where no two items tie
  pub ascends-from_sorted : (xs : List X) (d : X) → IsSortedBy (λ x y. is_lt (cmp x y)) xs → IsDistinct (eq_by_cmp cmp) xs → IsStrictlySortedBy cmp xs
  ascends-from_sorted xs d sorted distinct =
      sorted_from_all_adjacent o xs d (λ k l. less_from _ _ (o.antisymm (get_or xs k d) (get_or xs (k + 1) d)) (sorted k d (omega arith) l)
      (apart_from_distinct (eq_by_cmp cmp) xs k (k + 1) d distinct (omega arith) l))
