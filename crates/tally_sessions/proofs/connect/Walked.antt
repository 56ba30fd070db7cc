-- Amounts by day, added while the days are walked in order.
use Rattle.std.proofs.Common.{◌≡◌, Bool, true, false, cond, ℤ, pos, ◌+ℤ◌, ◌≤ℤ◌, refl, sym, ap, ◌∙◌, arith}
use Rattle.std.proofs.lemmas.Bool.Decides.{Decides-int_eq}
use Rattle.std.proofs.lemmas.Int.{ints}
use Rattle.std.specs.Ordering.{is_eq, int_cmp, int_eq}
use Rattle.std.specs.Prelude.{int_lt}
use Rattle.tally_sessions.proofs.days.SpanLemmas.{above, strictly}

-- the days before this one have what is added, and the others what they had
pub record IsWalked {X : Type 0} (add : X → X → X) (amount old now : ℤ → X) (day : ℤ) : Type 0 where
  pub done : (d : ℤ) → (d +ℤ pos 1) ≤ℤ day → now d ≡ add (old d) (amount d)
  pub rest : (d : ℤ) → day ≤ℤ d → now d ≡ old d

module _ {X : Type 0} (add : X → X → X) (zero : X) (same : (m : X) → m ≡ add m zero) (amount old : ℤ → X) where
  no_more : (m n : X) → n ≡ zero → m ≡ add m n
  no_more m n h = same m ∙ ap (add m) (sym h)

  pub walk_start : (day : ℤ) → ((d : ℤ) → (d +ℤ pos 1) ≤ℤ day → amount d ≡ zero) → IsWalked add amount old old day
  walk_start day none = record { done = λ d le. no_more (old d) (amount d) (none d le); rest = λ d le. refl }

  -- one day more
  pub walk_step : (now next : ℤ → X) (day : ℤ) → IsWalked add amount old now day → ((d : ℤ) → next d ≡ add (now d) (cond (is_eq (int_cmp day d)) (amount day) zero)) → IsWalked add amount old next (day +ℤ pos 1)
  walk_step now next day h added = record {
    done = λ d le. by_same d le (int_eq day d) refl;
    rest = λ d le. by_other d le (int_eq day d) refl;
  }
    where
      untouched : (d : ℤ) → int_eq day d ≡ false → next d ≡ now d
      untouched d e = added d ∙ ap (λ b. add (now d) (cond b (amount day) zero)) e ∙ sym (same (now d))

      by_same : (d : ℤ) → (d +ℤ pos 1) ≤ℤ (day +ℤ pos 1) → (b : Bool) → int_eq day d ≡ b → next d ≡ add (old d) (amount d)
      by_same d le true e =
          added d ∙ ap (λ b. add (now d) (cond b (amount day) zero)) e ∙ ap (λ m. add m (amount day)) (h.rest d (omega (arith, ints, (Decides-int_eq day d).0 e)))
          ∙ ap (λ (z : ℤ). add (old d) (amount z)) ((Decides-int_eq day d).0 e)
      by_same d le false e =
          let other : (day ≡ d) → ⊥ = λ is. absurd (let b : true ≡ false = sym ((Decides-int_eq day d).1 is) ∙ e in cc) in
          untouched d e ∙ h.done d (earlier (int_lt d day) refl other)
        where
          earlier : (b : Bool) → int_lt d day ≡ b → ((day ≡ d) → ⊥) → (d +ℤ pos 1) ≤ℤ day
          earlier true l other = strictly d day l
          earlier false l other = absurd (other (let up = above d day l in let is : day ≡ d = omega (arith, ints) in is))

      by_other : (d : ℤ) → (day +ℤ pos 1) ≤ℤ d → (b : Bool) → int_eq day d ≡ b → next d ≡ old d
      by_other d le true e = let is : day ≡ d = (Decides-int_eq day d).0 e in absurd (omega (arith, ints))
      by_other d le false e = untouched d e ∙ h.rest d (omega (arith, ints))

  -- days on which nothing is added
  pub walk_jump : (now : ℤ → X) (day next : ℤ) → day ≤ℤ next → IsWalked add amount old now day → ((d : ℤ) → day ≤ℤ d → (d +ℤ pos 1) ≤ℤ next → amount d ≡ zero) → IsWalked add amount old now next
  walk_jump now day next le h none = record {
    done = λ d lt. by d lt (int_lt d day) refl;
    rest = λ d le'. h.rest d (omega (arith, ints));
  }
    where
      by : (d : ℤ) → (d +ℤ pos 1) ≤ℤ next → (b : Bool) → int_lt d day ≡ b → now d ≡ add (old d) (amount d)
      by d lt true e = h.done d (strictly d day e)
      by d lt false e = let le' = above d day e in h.rest d le' ∙ no_more (old d) (amount d) (none d le' lt)

  -- nothing is added on the days that are left
  pub walk_end : (now : ℤ → X) (day : ℤ) → IsWalked add amount old now day → ((d : ℤ) → day ≤ℤ d → amount d ≡ zero) → (d : ℤ) → now d ≡ add (old d) (amount d)
  walk_end now day h none d = by (int_lt d day) refl
    where
      by : (b : Bool) → int_lt d day ≡ b → now d ≡ add (old d) (amount d)
      by true e = h.done d (strictly d day e)
      by false e = let le = above d day e in h.rest d le ∙ no_more (old d) (amount d) (none d le)
