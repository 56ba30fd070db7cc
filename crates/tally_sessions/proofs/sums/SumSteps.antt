-- A table of sums, after a key that it did not have.
use Rattle.std.proofs.Common.{◌≡◌, ◌+◌, ℕ, Bool, true, false, cond, List, Some, None, unwrap_or, refl, ap, subst, ◌∙◌, arith, Ordering}
use Rattle.std.proofs.lemmas.Cmp.{eq_by_cmp_equiv}
use Rattle.std.specs.Cmp.{IsTotalOrder}
use Rattle.std.specs.Map.{lookup}
use Rattle.std.specs.Ordering.{is_eq}
use Rattle.tally_sessions.specs.inside.Sums.{sum_at}

-- a new key has the seconds that it came with
pub sum_at-new : {K : Type 0} (R : K → K → Ordering) → IsTotalOrder R → (key : K) (seconds : ℕ) (old new : List (K × ℕ))
    → ((q : K) → lookup (λ j. is_eq (R q j)) new ≡ cond (is_eq (R key q)) (Some seconds) (lookup (λ j. is_eq (R q j)) old))
    → lookup (λ j. is_eq (R key j)) old ≡ None → (k : K) → sum_at R new k ≡ sum_at R old k + cond (is_eq (R key k)) seconds 0
sum_at-new R o key seconds old new updates absent k = ap (λ u. unwrap_or u 0) (updates k) ∙ by (is_eq (R key k)) refl
  where
    tied : is_eq (R key k) ≡ true → lookup (λ j. is_eq (R k j)) old ≡ None
    tied h = subst (λ test. lookup test old ≡ None) (λ i j. (eq_by_cmp_equiv o).congr key k j h i) absent

    by : (b : Bool) → is_eq (R key k) ≡ b → unwrap_or (cond b (Some seconds) (lookup (λ j. is_eq (R k j)) old)) 0 ≡ sum_at R old k + cond b seconds 0
    by true h = let none : sum_at R old k ≡ 0 = ap (λ u. unwrap_or u 0) (tied h) in omega arith
    by false h = omega arith
