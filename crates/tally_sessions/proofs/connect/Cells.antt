-- The cells of a table, a day's side by side, while something is added to those of a user.
use Rattle.std.proofs.Common.{◌≡◌, ◌≢◌, ◌⊎◌, inl, inr, ℕ, ◌+◌, ◌*◌, ◌<◌, ◌≤◌, Bool, true, false, cond, eqb, List, length, set, refl, sym, ap, ◌∙◌, arith}
use Rattle.std.proofs.Math.Nat.{mul-le-mul_right}
use Rattle.std.proofs.lemmas.Bool.{cases_eq, cases_lt}
use Rattle.std.proofs.lemmas.Bool.Decides.{nat_tests}
use Rattle.std.proofs.lemmas.Grind.{get_or-set_at}
use Rattle.std.proofs.lemmas.List.{get_or-set_other}
use Rattle.tally_sessions.specs.inside.Tables.{cell_at}

pub suc_times : (p w : ℕ) → (p + 1) * w ≡ p * w + w
suc_times p w = omega arith

-- cells of earlier days stand before those of later ones
pub days_apart : (w p q p' q' : ℕ) → q < w → p < p' → p * w + q < p' * w + q'
days_apart w p q p' q' lt early =
    let up : (p + 1) * w ≤ p' * w = mul-le-mul_right w (omega arith) in
    let one = suc_times p w in
    omega (arith, up, one, lt)

-- a place is the cell of one day
pub same_place : (w p q p' q' : ℕ) → q < w → q' < w → p * w + q ≡ p' * w + q' → p ≡ p'
same_place w p q p' q' lt lt' e = by (cases_lt p p') (cases_lt p' p)
  where
    by : (p < p') ⊎ (p' ≤ p) → (p' < p) ⊎ (p ≤ p') → p ≡ p'
    by (inl early) h = absurd (let up = days_apart w p q p' q' lt early in omega (arith, up, e))
    by (inr le) (inl late) = absurd (let up = days_apart w p' q' p q lt' late in omega (arith, up, e))
    by (inr le) (inr le') = omega arith

-- and of one user
pub same_rank : (w p q p' q' : ℕ) → q < w → q' < w → p * w + q ≡ p' * w + q' → q ≡ q'
same_rank w p q p' q' lt lt' e = let same = ap (λ n. n * w) (same_place w p q p' q' lt lt' e) in omega (arith, e, same)

-- a user's cells of days before a place have what is added, and all others what they had
pub record IsAdded (amount : ℕ → ℕ) (width rank : ℕ) (old now : List ℕ) (place : ℕ) : Type 0 where
  pub done : (p q : ℕ) → q < width → p < place → cell_at now width p q ≡ cell_at old width p q + cond (eqb q rank) (amount p) 0
  pub rest : (p q : ℕ) → q < width → place ≤ p → cell_at now width p q ≡ cell_at old width p q

nothing_more : (m n : ℕ) (b : Bool) → n ≡ 0 → m ≡ m + cond b n 0
nothing_more m n true none = omega (arith, none)
nothing_more m n false none = omega arith

pub added_start : (amount : ℕ → ℕ) (width rank : ℕ) (old : List ℕ) (place : ℕ) → ((p : ℕ) → p < place → amount p ≡ 0) → IsAdded amount width rank old old place
added_start amount width rank old place none = record {
  done = λ p q lt early. nothing_more (cell_at old width p q) (amount p) (eqb q rank) (none p early);
  rest = λ p q lt late. refl;
}

one_cell : (b : Bool) (q rank : ℕ) → eqb q rank ≡ b → (q ≡ rank) ⊎ ((q ≢ rank) × (b ≡ false))
one_cell true q rank e = inl (grind (arith, nat_tests))
one_cell false q rank e = inr ((λ same. absurd (grind (arith, nat_tests))), refl)

-- one day more
pub added_step : (amount : ℕ → ℕ) (width rank : ℕ) (old now : List ℕ) (place x : ℕ) → rank < width → place * width + rank < length now → IsAdded amount width rank old now place
    → x ≡ cell_at now width place rank + amount place → IsAdded amount width rank old (set now (place * width + rank) x) (place + 1)
added_step amount width rank old now place x known within h is = record {
  done = λ p q lt early. by p q lt early (cases_eq p place) (one_cell (eqb q rank) q rank refl);
  rest = λ p q lt late. untouched p q (λ e. absurd (let same = same_place width p q place rank lt known e in omega (arith, same, late))) ∙ h.rest p q lt (omega arith);
}
  where
    untouched : (p q : ℕ) → (p * width + q ≢ place * width + rank) → cell_at (set now (place * width + rank) x) width p q ≡ cell_at now width p q
    untouched p q other = get_or-set_other now (place * width + rank) (p * width + q) x 0 other

    by : (p q : ℕ) → q < width → p < place + 1 → (p ≡ place) ⊎ (p ≢ place) → (q ≡ rank) ⊎ ((q ≢ rank) × (eqb q rank ≡ false))
        → cell_at (set now (place * width + rank) x) width p q ≡ cell_at old width p q + cond (eqb q rank) (amount p) 0
    by p q lt early (inl e) (inl f) =
        get_or-set_at now (place * width + rank) (p * width + q) x 0 (λ i. e i * width + f i) within ∙ is ∙ ap (λ m. m + amount place) (h.rest place rank known (omega arith))
        ∙ (λ i. cell_at old width (sym e i) (sym f i) + amount (sym e i))
        ∙ ap (λ b. cell_at old width p q + cond b (amount p) 0) (let t : eqb q rank ≡ true = grind (arith, nat_tests) in sym t)
    by p q lt early (inl e) (inr other) =
        untouched p q (λ same. other.0 (same_rank width p q place rank lt known same)) ∙ h.rest p q lt (omega arith)
        ∙ nothing (cell_at old width p q) ∙ ap (λ b. cell_at old width p q + cond b (amount p) 0) (sym other.1)
      where
        nothing : (m : ℕ) → m ≡ m + 0
        nothing m = omega arith
    by p q lt early (inr e) either =
        untouched p q (λ same. e (same_place width p q place rank lt known same)) ∙ h.done p q lt (omega arith)

-- nothing is added on the days that are left
pub added_end : (amount : ℕ → ℕ) (width rank : ℕ) (old now : List ℕ) (place : ℕ) → IsAdded amount width rank old now place → ((p : ℕ) → place ≤ p → amount p ≡ 0)
    → (p q : ℕ) → q < width → cell_at now width p q ≡ cell_at old width p q + cond (eqb q rank) (amount p) 0
added_end amount width rank old now place h none p q lt = by (cases_lt p place)
  where
    by : (p < place) ⊎ (place ≤ p) → cell_at now width p q ≡ cell_at old width p q + cond (eqb q rank) (amount p) 0
    by (inl early) = h.done p q lt early
    by (inr late) = h.rest p q lt late ∙ nothing_more (cell_at old width p q) (amount p) (eqb q rank) (none p late)
