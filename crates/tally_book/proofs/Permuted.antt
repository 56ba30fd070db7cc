-- Two lists with the same items of each owner, in the same order, hold the same items in some order.
use Rattle.std.proofs.Common.{◌≡◌, ◌≢◌, ℕ, List, [], ◌∷◌, ◌++◌, length, map, sym, refl, ap, ◌∙◌, subst, arith, cond, eqb, eq-eqb, ne_eqb, ⊎_elim}
use Rattle.std.proofs.lemmas.Bool.{cases_eq}
use Rattle.std.proofs.lemmas.List.{map-append}
use Rattle.std.proofs.lemmas.List.Sorted.{IsPermutation-refl, IsPermutation-sym, IsPermutation-cons, IsPermutation-middle, IsPermutation-trans}
use Rattle.std.specs.List.{filter}
use Rattle.std.specs.List.Sorted.{IsPermutation}
use Rattle.tally_book.proofs.Parts.{owned, owned-append}

module _ {E R : Type 0} (owner_of : E → ℕ) (item_of : E → R) where
  owned-here : (owner : ℕ) (e : E) (es : List E) → owner_of e ≡ owner → owned owner_of item_of owner (e ∷ es) ≡ item_of e ∷ owned owner_of item_of owner es
  owned-here owner e es same =
      ap (λ b. map item_of (cond b (e ∷ filter (λ (x : E). eqb (owner_of x) owner) es) (filter (λ (x : E). eqb (owner_of x) owner) es))) (eq-eqb (owner_of e) owner same)

  owned-there : (owner : ℕ) (e : E) (es : List E) → owner_of e ≢ owner → owned owner_of item_of owner (e ∷ es) ≡ owned owner_of item_of owner es
  owned-there owner e es apart =
      ap (λ b. map item_of (cond b (e ∷ filter (λ (x : E). eqb (owner_of x) owner) es) (filter (λ (x : E). eqb (owner_of x) owner) es))) (ne_eqb (owner_of e) owner apart)

  some_none : (x : R) (xs : List R) → x ∷ xs ≡ [] → ⊥
  some_none x xs e = omega (arith, ap length e)

  abbrev head_or : R → List R → R
  head_or d [] = d
  head_or d (x ∷ xs) = x

  abbrev tail_of : List R → List R
  tail_of [] = []
  tail_of (x ∷ xs) = xs

  -- the owner's first entry, and the entries round it
  record First (owner : ℕ) (item : R) (rest : List R) (es : List E) : Type 0 where
    found : E
    front : List E
    back : List E
    is : es ≡ front ++ found ∷ back
    owner_is : owner_of found ≡ owner
    item_is : item_of found ≡ item
    none_before : owned owner_of item_of owner front ≡ []
    after : owned owner_of item_of owner back ≡ rest

  first_of_owner : (owner : ℕ) (item : R) (rest : List R) (es : List E) → owned owner_of item_of owner es ≡ item ∷ rest → First owner item rest es
  first_of_owner owner item rest [] h = absurd (some_none item rest (sym h))
  first_of_owner owner item rest (e ∷ es) h = ⊎_elim
      (λ (same : owner_of e ≡ owner).
      let both : item_of e ∷ owned owner_of item_of owner es ≡ item ∷ rest = sym (owned-here owner e es same) ∙ h in
      record {
        found = e;
        front = [];
        back = es;
        is = refl;
        owner_is = same;
        item_is = ap (head_or item) both;
        none_before = refl;
        after = ap tail_of both;
      })
      (λ (apart : owner_of e ≢ owner).
      let r = first_of_owner owner item rest es (sym (owned-there owner e es apart) ∙ h) in
      record {
        found = r.found;
        front = e ∷ r.front;
        back = r.back;
        is = ap (λ l. e ∷ l) r.is;
        owner_is = r.owner_is;
        item_is = r.item_is;
        none_before = owned-there owner e r.front apart ∙ r.none_before;
        after = r.after;
      })
      (cases_eq (owner_of e) owner)

  pub same_items : (xs ys : List E) → ((owner : ℕ) → owned owner_of item_of owner xs ≡ owned owner_of item_of owner ys) → IsPermutation (map item_of xs) (map item_of ys)
  same_items [] [] h = IsPermutation-refl []
  same_items [] (y ∷ ys) h = absurd (some_none (item_of y) (owned owner_of item_of (owner_of y) ys) (sym (owned-here (owner_of y) y ys refl) ∙ sym (h (owner_of y))))
  same_items (x ∷ xs) ys h =
      let own : ℕ = owner_of x in
      let r = first_of_owner own (item_of x) (owned owner_of item_of own xs) ys (sym (h own) ∙ owned-here own x xs refl) in
      let others : (owner : ℕ) → owned owner_of item_of owner xs ≡ owned owner_of item_of owner (r.front ++ r.back) =
      λ owner. ⊎_elim
      (λ (same : own ≡ owner).
      subst (λ k. owned owner_of item_of k xs ≡ owned owner_of item_of k (r.front ++ r.back)) same
      (sym (owned-append owner_of item_of own r.front r.back ∙ (ap (λ l. l ++ owned owner_of item_of own r.back) r.none_before ∙ r.after))))
      (λ (apart : own ≢ owner).
      sym (owned-there owner x xs apart)
      ∙ (h owner
      ∙ (ap (owned owner_of item_of owner) r.is
      ∙ (owned-append owner_of item_of owner r.front (r.found ∷ r.back)
      ∙ (ap (λ l. owned owner_of item_of owner r.front ++ l) (owned-there owner r.found r.back (λ e. apart (sym r.owner_is ∙ e)))
      ∙ sym (owned-append owner_of item_of owner r.front r.back))))))
      (cases_eq own owner) in
      let rest : IsPermutation (map item_of xs) (map item_of (r.front ++ r.back)) = same_items xs (r.front ++ r.back) others in
      let fs : List R = map item_of r.front in
      let bs : List R = map item_of r.back in
      let apart : map item_of (r.front ++ r.back) ≡ fs ++ bs = map-append item_of r.front r.back in
      let whole : map item_of ys ≡ fs ++ item_of x ∷ bs = ap (map item_of) r.is ∙ (map-append item_of r.front (r.found ∷ r.back) ∙ ap (λ (z : R). fs ++ z ∷ bs) r.item_is) in
      let step : IsPermutation (item_of x ∷ map item_of xs) (item_of x ∷ (fs ++ bs)) = IsPermutation-cons (item_of x) (map item_of xs) (fs ++ bs) (subst (IsPermutation (map item_of xs)) apart rest) in
      let back : IsPermutation (item_of x ∷ (fs ++ bs)) (fs ++ item_of x ∷ bs) = IsPermutation-sym (fs ++ item_of x ∷ bs) (item_of x ∷ (fs ++ bs)) (IsPermutation-middle fs (item_of x) bs) in
      subst (IsPermutation (item_of x ∷ map item_of xs)) (sym whole) (IsPermutation-trans (item_of x ∷ map item_of xs) (item_of x ∷ (fs ++ bs)) (fs ++ item_of x ∷ bs) step back)
