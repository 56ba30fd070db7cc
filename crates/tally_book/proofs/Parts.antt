-- A list that is made of the parts of some owners, one after another: an owner's items are those of its parts.
use Rattle.std.proofs.Common.{◌≡◌, ◌≢◌, ℕ, ◌≤◌, List, [], ◌∷◌, ◌++◌, length, take, drop, map, sym, refl, ap, ◌∙◌, subst, arith, cond, eqb, eq-eqb, ne_eqb, ⊎_elim}
use Rattle.std.proofs.lemmas.Bool.{cases_eq}
use Rattle.std.proofs.lemmas.List.{take-append-drop, take-take, drop-append-le, length-take-le, append-nil, drop_at, map-append}
use Rattle.std.proofs.lemmas.List.Elements.{All-head, All-tail, filter-append}
use Rattle.std.specs.List.{All, filter, flat_map}
use Rattle.tally_book.specs.Books.{between}

-- a part of a list, from one place to another, with the number of its owner
pub record Part : Type 0 where
  pub owner : ℕ
  pub from : ℕ
  pub to : ℕ

-- each part begins where the one before it ended
abbrev pub Joins : ℕ → List Part → ℕ → Type 0
Joins start [] end = start ≡ end
Joins start (p ∷ ps) end = (p.from ≡ start) × Joins p.to ps end

pub nothing_between : {E : Type 0} (n : ℕ) (l : List E) → n ≤ length l → between n n l ≡ []
nothing_between n l h = ap (drop n) (sym (append-nil (take n l))) ∙ drop_at (take n l) [] n (length-take-le n l h)

between-split : {E : Type 0} (a m b : ℕ) (l : List E) → a ≤ m → m ≤ b → b ≤ length l → between a b l ≡ between a m l ++ between m b l
between-split a m b l h k n =
    let parts : take b l ≡ take m l ++ drop m (take b l) = sym (take-append-drop m (take b l)) ∙ ap (λ z. z ++ drop m (take b l)) (take-take m b l k) in
    let long : length (take m l) ≡ m = length-take-le m l (omega arith) in
    ap (drop a) parts ∙ drop-append-le a (take m l) (drop m (take b l)) (omega arith)

module _ {E R : Type 0} (owner_of : E → ℕ) (item_of : E → R) where
  -- the items of one owner, in order
  abbrev pub owned : ℕ → List E → List R
  owned owner es = map item_of (filter (λ e. eqb (owner_of e) owner) es)

  -- all of a part is its owner's
  pub record IsPart (es : List E) (p : Part) : Type 0 where
    pub ordered : p.from ≤ p.to
    pub within : p.to ≤ length es
    pub own : All (λ (e : E). owner_of e ≡ p.owner) (between p.from p.to es)

  -- the items of a part, where it is of this owner
  abbrev pub of_part : ℕ → List E → Part → List R
  of_part owner es p = cond (eqb p.owner owner) (map item_of (between p.from p.to es)) []

  pub owned-append : (owner : ℕ) (xs ys : List E) → owned owner (xs ++ ys) ≡ owned owner xs ++ owned owner ys
  owned-append owner xs ys = ap (map item_of) (filter-append (λ (e : E). eqb (owner_of e) owner) xs ys) ∙ map-append item_of _ _

  all_kept : (owner : ℕ) (es : List E) → All (λ (e : E). owner_of e ≡ owner) es → filter (λ (e : E). eqb (owner_of e) owner) es ≡ es
  all_kept owner [] h = refl
  all_kept owner (e ∷ es) h =
      ap (λ b. cond b (e ∷ filter (λ (x : E). eqb (owner_of x) owner) es) (filter (λ (x : E). eqb (owner_of x) owner) es)) (eq-eqb (owner_of e) owner (All-head (λ (x : E). owner_of x ≡ owner) e es h))
      ∙ ap (λ l. e ∷ l) (all_kept owner es (All-tail (λ (x : E). owner_of x ≡ owner) e es h))

  none_kept : (owner other : ℕ) (es : List E) → other ≢ owner → All (λ (e : E). owner_of e ≡ other) es → filter (λ (e : E). eqb (owner_of e) owner) es ≡ []
  none_kept owner other [] apart h = refl
  none_kept owner other (e ∷ es) apart h =
      ap (λ b. cond b (e ∷ filter (λ (x : E). eqb (owner_of x) owner) es) (filter (λ (x : E). eqb (owner_of x) owner) es))
      (ne_eqb (owner_of e) owner (λ same. apart (sym (All-head (λ (x : E). owner_of x ≡ other) e es h) ∙ same)))
      ∙ none_kept owner other es apart (All-tail (λ (x : E). owner_of x ≡ other) e es h)

  one_part : (owner : ℕ) (es : List E) (p : Part) → IsPart es p → owned owner (between p.from p.to es) ≡ of_part owner es p
  one_part owner es p h = ⊎_elim
      (λ (same : p.owner ≡ owner).
      ap (map item_of) (all_kept owner (between p.from p.to es) (subst (λ n. All (λ (e : E). owner_of e ≡ n) (between p.from p.to es)) same h.own))
      ∙ ap (λ b. cond b (map item_of (between p.from p.to es)) []) (sym (eq-eqb p.owner owner same)))
      (λ (apart : p.owner ≢ owner).
      ap (map item_of) (none_kept owner p.owner (between p.from p.to es) apart h.own)
      ∙ ap (λ b. cond b (map item_of (between p.from p.to es)) []) (sym (ne_eqb p.owner owner apart)))
      (cases_eq p.owner owner)

  parts_rise : (es : List E) (ps : List Part) (start end : ℕ) → Joins start ps end → All (IsPart es) ps → start ≤ end
  parts_rise es [] start end h s = omega (arith, h)
  parts_rise es (p ∷ ps) start end h s =
      let first = All-head (IsPart es) p ps s in
      let rest = parts_rise es ps p.to end h.1 (All-tail (IsPart es) p ps s) in
      omega (arith, h.0, first.ordered, rest)

  pub owned_is_parts : (owner : ℕ) (es : List E) (ps : List Part) (start end : ℕ) → Joins start ps end → All (IsPart es) ps → end ≤ length es
      → owned owner (between start end es) ≡ flat_map (of_part owner es) ps
  owned_is_parts owner es [] start end h s n = ap (owned owner) (ap (λ k. between start k es) (sym h) ∙ nothing_between start es (omega (arith, h)))
  owned_is_parts owner es (p ∷ ps) start end h s n =
      let part = All-head (IsPart es) p ps s in
      let others = All-tail (IsPart es) p ps s in
      let later : p.to ≤ end = parts_rise es ps p.to end h.1 others in
      let near : start ≤ p.to = omega (arith, h.0, part.ordered) in
      let here : owned owner (between start p.to es) ≡ of_part owner es p = ap (λ k. owned owner (between k p.to es)) (sym h.0) ∙ one_part owner es p part in
      let there = owned_is_parts owner es ps p.to end h.1 others n in
      ap (owned owner) (between-split start p.to end es near later n)
      ∙ (owned-append owner (between start p.to es) (between p.to end es)
      ∙ (λ i. here i ++ there i))
