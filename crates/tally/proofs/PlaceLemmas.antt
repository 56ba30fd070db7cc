-- Lists that are made item by item, until one is refused.
use Rattle.std.proofs.Common.{◌≡◌, ◌<◌, ◌++◌, ℕ, List, [], ◌∷◌, arith, length, inl, inr, sym, ap, subst, slice_index_or, ◌∙◌}
use Rattle.std.proofs.lemmas.Bool.{cases_lt}
use Rattle.std.proofs.lemmas.List.{get_or_append_left, get_or_push, length_push}
use Rattle.tally.specs.Places.{AllAt, StopsAt}

-- one item more, at the place that comes next
pub one_more : {A : Type 0} (is : ℕ → A → Type 0) (old new : List A) (s : A) (i : ℕ) → new ≡ old ++ s ∷ [] → length old ≡ i → AllAt is old → is i s → AllAt is new
one_more is old new s i pushed count each last k t below = elim (cases_lt k (length old)) [
  | inl first ↦ subst (is k) (sym (ap (λ l. slice_index_or l k t) pushed ∙ get_or_append_left old (s ∷ []) t k first)) (each k t first)
  | inr other ↦
      let place : k ≡ i = omega (arith, other, below, count, ap length pushed, length_push old s) in
      let read : slice_index_or new k t ≡ s = ap (λ l. slice_index_or l k t) pushed ∙ get_or_push old s t k (omega (arith, place, count)) in
      subst (λ j. is j (slice_index_or new k t)) (sym place) (subst (is i) (sym read) last)
]

-- the place that comes next is refused
pub stops_next : {A F : Type 0} (is : ℕ → A → Type 0) (refuses : ℕ → F → Type 0) (count : ℕ) (items : List A) (i : ℕ) (fault : F)
    → length items ≡ i → i < count → AllAt is items → refuses i fault → StopsAt is refuses count items fault
stops_next is refuses count items i fault so_far within each refused = record {
  made = each;
  within = omega (arith, so_far, within);
  refused = subst (λ j. refuses j fault) (sym so_far) refused;
}
