-- A table of sums that may go below 0, after one was added to.
use Rattle.std.proofs.Common.{◌≡◌, ℕ, ◌+◌, ◌≤◌, Bool, true, false, cond, List, [], ◌∷◌, ℤ, pos, ◌+ℤ◌, Some, unwrap_or, refl, sym, ap, subst, ◌∙◌, arith, Ordering}
use Rattle.std.proofs.lemmas.Cmp.{eq_by_cmp_equiv}
use Rattle.std.proofs.lemmas.Int.{ints}
use Rattle.std.proofs.lemmas.List.Sums.{sum_by-cons}
use Rattle.std.proofs.lemmas.Map.{lookup-set_value}
use Rattle.std.specs.BTreeMap.{insert_entry}
use Rattle.std.specs.Cmp.{IsTotalOrder}
use Rattle.std.specs.Map.{lookup, set_value}
use Rattle.std.specs.Option.{IsSome}
use Rattle.std.specs.Ordering.{is_eq, match_ordering}
use Rattle.std.specs.Prelude.{sum_by}
use Rattle.std.specs.declared.cmp.Ordering.TheVariants.{Less, Equal, Greater}
use Rattle.tally_sessions.specs.inside.Sums.{change_of}

no_more : (n : ℤ) → n ≡ n +ℤ pos 0
no_more n = omega (arith, ints)

-- each key has what it had, and that of this key so much more
pub change_put : {K : Type 0} (R : K → K → Ordering) → IsTotalOrder R → (old new : List (K × ℤ)) (at : K) (more so_far : ℤ) → so_far ≡ change_of R old at +ℤ more
    → ((k : K) → lookup (λ j. is_eq (R k j)) new ≡ cond (is_eq (R at k)) (Some so_far) (lookup (λ j. is_eq (R k j)) old))
    → (k : K) → change_of R new k ≡ change_of R old k +ℤ cond (is_eq (R at k)) more (pos 0)
change_put R o old new at more so_far is updates k = ap (λ u. unwrap_or u (pos 0)) (updates k) ∙ by (is_eq (R at k)) refl
  where
    tied : is_eq (R at k) ≡ true → change_of R old at ≡ change_of R old k
    tied h = ap (λ test. unwrap_or (lookup test old) (pos 0)) (λ i j. (eq_by_cmp_equiv o).congr at k j h i)

    by : (b : Bool) → is_eq (R at k) ≡ b → unwrap_or (cond b (Some so_far) (lookup (λ j. is_eq (R k j)) old)) (pos 0) ≡ change_of R old k +ℤ cond b more (pos 0)
    by true h = is ∙ ap (λ c. c +ℤ more) (tied h)
    by false h = no_more (change_of R old k)

-- an entry more, or the same keys
pub ahead_put : {K : Type 0} (R : K → K → Ordering) (weight : K → ℕ) (es : List (K × ℤ)) (at : K) (v : ℤ) → sum_by (λ e. weight e.0) (insert_entry R es at v) ≤ sum_by (λ e. weight e.0) es + weight at
ahead_put {K} R weight [] at v = omega arith
ahead_put {K} R weight (e ∷ es) at v = by (R at e.0) (ahead_put R weight es at v)
  where
    by : (r : Ordering) → sum_by (λ x. weight x.0) (insert_entry R es at v) ≤ sum_by (λ x. weight x.0) es + weight at
        → sum_by (λ x. weight x.0) (match_ordering r ((at, v) ∷ e ∷ es) ((e.0, v) ∷ es) (e ∷ insert_entry R es at v)) ≤ sum_by (λ x. weight x.0) (e ∷ es) + weight at
    by Less rest = let first = sum_by-cons (λ (x : K × ℤ). weight x.0) (at, v) (e ∷ es) in omega arith
    by Equal rest = let same = sum_by-cons (λ (x : K × ℤ). weight x.0) (e.0, v) es in let was = sum_by-cons (λ (x : K × ℤ). weight x.0) e es in omega arith
    by Greater rest = let is = sum_by-cons (λ (x : K × ℤ). weight x.0) e (insert_entry R es at v) in let was = sum_by-cons (λ (x : K × ℤ). weight x.0) e es in omega arith

-- the value of an entry is no part of the weights
pub ahead_kept : {K : Type 0} (test : K → Bool) (weight : K → ℕ) (es : List (K × ℤ)) (v : ℤ) → sum_by (λ e. weight e.0) (set_value test es v) ≡ sum_by (λ e. weight e.0) es
ahead_kept test weight [] v = refl
ahead_kept {K} test weight (e ∷ es) v = by (test e.0) (ahead_kept test weight es v)
  where
    by : (b : Bool) → sum_by (λ x. weight x.0) (set_value test es v) ≡ sum_by (λ x. weight x.0) es
        → sum_by (λ x. weight x.0) (cond b ((e.0, v) ∷ es) (e ∷ set_value test es v)) ≡ sum_by (λ x. weight x.0) (e ∷ es)
    by true rest = let same = sum_by-cons (λ (x : K × ℤ). weight x.0) (e.0, v) es in let was = sum_by-cons (λ (x : K × ℤ). weight x.0) e es in omega arith
    by false rest = let is = sum_by-cons (λ (x : K × ℤ). weight x.0) e (set_value test es v) in let was = sum_by-cons (λ (x : K × ℤ). weight x.0) e es in omega arith

-- what a table has at each key once the value of one that it had is another
pub set_updates : {K : Type 0} (R : K → K → Ordering) → IsTotalOrder R → (old : List (K × ℤ)) (at : K) (was v : ℤ) → lookup (λ j. is_eq (R at j)) old ≡ Some was
    → (k : K) → lookup (λ j. is_eq (R k j)) (set_value (λ j. is_eq (R at j)) old v) ≡ cond (is_eq (R at k)) (Some v) (lookup (λ j. is_eq (R k j)) old)
set_updates {K} R o old at was v has k =
    lookup-set_value (eq_by_cmp_equiv o) (λ j. is_eq (R at j)) (λ x y h. (eq_by_cmp_equiv o).congr at x y h) k v old (subst IsSome (sym has) refl)
