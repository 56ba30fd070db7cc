-- Sums over a table of places, against sums over the list that it leads to.
use Rattle.std.proofs.Common.{◌≡◌, ◌≢◌, ◌⊎◌, inl, inr, ℕ, suc, ◌+◌, ◌<◌, Bool, true, false, cond, List, [], ◌∷◌, length, get_or, set, Some, None, refl, sym, ap, ◌∙◌, arith}
use Rattle.std.proofs.lemmas.Bool.{cases_eq, false≢true}
use Rattle.std.proofs.lemmas.List.{get_or-set_same, get_or-set_other, length-set}
use Rattle.std.proofs.lemmas.List.Sums.{sum_by-cons, sum_by-set}
use Rattle.std.proofs.lemmas.Slice.Eq.{bytes_eq-Decides}
use Rattle.std.specs.List.{AllByRecursion, IsDistinct}
use Rattle.std.specs.Map.{keys_of, lookup}
use Rattle.std.specs.Prelude.{bytes_eq, sum_by}
use Rattle.tally_records.proofs.Members.{Member}
use Rattle.tally_sessions.proofs.track.Names.{same_both_ways}

-- sums of terms that agree at each item
pub sum_same : {X : Type 0} (f g : X → ℕ) (xs : List X) → ((x : X) → Member x xs → f x ≡ g x) → sum_by f xs ≡ sum_by g xs
sum_same f g [] agree = refl
sum_same f g (x ∷ xs) agree =
    sum_by-cons f x xs ∙ (λ i. agree x (inl refl) i + sum_same f g xs (λ y m. agree y (inr m)) i) ∙ sym (sum_by-cons g x xs)

all_zero : (xs : List ℕ) → ((k : ℕ) → get_or xs k 0 ≡ 0) → sum_by (λ (n : ℕ). n) xs ≡ 0
all_zero [] none = refl
all_zero (x ∷ xs) none = let first = none 0 in let rest = all_zero xs (λ k. none (suc k)) in sum_by-cons (λ (n : ℕ). n) x xs ∙ two_zeros x (sum_by (λ (n : ℕ). n) xs) first rest
  where
    two_zeros : (m n : ℕ) → m ≡ 0 → n ≡ 0 → m + n ≡ 0
    two_zeros m n a b = omega arith

apart : (line : List ℕ) (es : List (List ℕ × ℕ)) (e : List ℕ × ℕ) → AllByRecursion (λ k. bytes_eq line k ≡ false) (keys_of es) → Member e es → bytes_eq line e.0 ≡ false
apart line [] e all m = absurd m
apart line (f ∷ fs) e all m = elim m [ inl same ↦ ap (λ (g : List ℕ × ℕ). bytes_eq line g.0) same ∙ all.0 | inr n ↦ apart line fs e all.1 n ]

-- a table of different keys has each of its entries
pub lookup_of_member : (es : List (List ℕ × ℕ)) (e : List ℕ × ℕ) → IsDistinct bytes_eq (keys_of es) → Member e es → lookup (bytes_eq e.0) es ≡ Some e.1
unfolding IsDistinct
lookup_of_member [] e distinct m = absurd m
lookup_of_member (f ∷ fs) e distinct m = elim m [
  | inl same ↦ ap (λ b. cond b (Some f.1) (lookup (bytes_eq e.0) fs)) ((bytes_eq-Decides e.0 f.0).1 (ap (λ (g : List ℕ × ℕ). g.0) same)) ∙ ap (λ (g : List ℕ × ℕ). Some g.1) (sym same)
  | inr n ↦ ap (λ b. cond b (Some f.1) (lookup (bytes_eq e.0) fs)) (same_both_ways f.0 e.0 false (apart f.0 fs e distinct.0 n)) ∙ lookup_of_member fs e distinct.1 n
]

none≢some : (m : ℕ) → None ≡ Some m → ⊥
none≢some m e = cc

some_inj : (m n : ℕ) → Some m ≡ Some n → m ≡ n
some_inj m n e = cc

module _ (line_of : ℕ → List ℕ) where
  -- each number that is above 0 is at a place that the table leads to from its line
  pub table_sum : (xs : List ℕ) (es : List (List ℕ × ℕ)) → IsDistinct bytes_eq (keys_of es) → ((e : List ℕ × ℕ) → Member e es → (e.1 < length xs) × (line_of e.1 ≡ e.0)) → ((k : ℕ) → 0 < get_or xs k 0 → lookup (bytes_eq (line_of k)) es ≡ Some k)
      → sum_by (λ (e : List ℕ × ℕ). get_or xs e.1 0) es ≡ sum_by (λ (n : ℕ). n) xs
  unfolding IsDistinct
  table_sum xs [] distinct leads found = sym (all_zero xs (λ k. none k (cases_eq (get_or xs k 0) 0)))
    where
      none : (k : ℕ) → (get_or xs k 0 ≡ 0) ⊎ (get_or xs k 0 ≢ 0) → get_or xs k 0 ≡ 0
      none k (inl e) = e
      none k (inr some) = absurd (none≢some k (found k (omega arith)))
  table_sum xs (e ∷ es) distinct leads found =
      let i : ℕ = e.1 in
      let xs' : List ℕ = set xs i 0 in
      let here = leads e (inl refl) in
      let other : (f : List ℕ × ℕ) → Member f es → f.1 ≢ i = λ f m same. false≢true (sym (apart e.0 es f distinct.0 m) ∙ (bytes_eq-Decides e.0 f.0).1 (sym here.1 ∙ ap line_of (sym same) ∙ (leads f (inr m)).1)) in
      let rest : sum_by (λ (f : List ℕ × ℕ). get_or xs' f.1 0) es ≡ sum_by (λ (n : ℕ). n) xs' =
      table_sum xs' es distinct.1 (λ f m. let l = leads f (inr m) in let lt = l.0 in (omega (arith, lt, length-set xs i 0), l.1)) (λ k lt. still_found xs e es here.0 found k lt (cases_eq k i)) in
      let same : sum_by (λ (f : List ℕ × ℕ). get_or xs f.1 0) es ≡ sum_by (λ (f : List ℕ × ℕ). get_or xs' f.1 0) es =
      sum_same (λ (f : List ℕ × ℕ). get_or xs f.1 0) (λ (f : List ℕ × ℕ). get_or xs' f.1 0) es (λ f m. sym (get_or-set_other xs i f.1 0 0 (other f m))) in
      let moved : sum_by (λ (n : ℕ). n) xs' + get_or xs i 0 ≡ sum_by (λ (n : ℕ). n) xs + 0 = sum_by-set (λ (n : ℕ). n) xs i 0 0 here.0 in
      sum_by-cons (λ (f : List ℕ × ℕ). get_or xs f.1 0) e es ∙ joined (get_or xs i 0) _ _ _ (same ∙ rest) moved
    where
      joined : (y s t w : ℕ) → s ≡ t → t + y ≡ w + 0 → y + s ≡ w
      joined y s t w a b = omega arith

      still_found : (ys : List ℕ) (f : List ℕ × ℕ) (fs : List (List ℕ × ℕ)) → f.1 < length ys → ((k : ℕ) → 0 < get_or ys k 0 → lookup (bytes_eq (line_of k)) (f ∷ fs) ≡ Some k) → (k : ℕ) → 0 < get_or (set ys f.1 0) k 0 → (k ≡ f.1) ⊎ (k ≢ f.1) → lookup (bytes_eq (line_of k)) fs ≡ Some k
      still_found ys f fs within all k lt (inl at) =
          let z : get_or (set ys f.1 0) k 0 ≡ 0 = ap (λ j. get_or (set ys f.1 0) j 0) at ∙ get_or-set_same ys f.1 0 0 within in absurd (omega arith)
      still_found ys f fs within all k lt (inr away) =
          let old : get_or (set ys f.1 0) k 0 ≡ get_or ys k 0 = get_or-set_other ys f.1 k 0 0 away in
          by (bytes_eq (line_of k) f.0) (all k (omega arith))
        where
          by : (b : Bool) → cond b (Some f.1) (lookup (bytes_eq (line_of k)) fs) ≡ Some k → lookup (bytes_eq (line_of k)) fs ≡ Some k
          by true e = absurd (away (sym (some_inj f.1 k e)))
          by false e = e
