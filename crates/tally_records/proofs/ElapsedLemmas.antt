-- What shifts of a float's digits give of its value.
use Rattle.std.proofs.Common.{◌≡◌, ℕ, ◌+◌, ◌-◌, ◌*◌, ◌/◌, ◌%◌, ◌^◌, ◌<◌, ◌≤◌, ◌||◌, ◌==◌, Bool, true, false, cond, nat_le, nat_lt, refl, subst, sym, ap, ◌∙◌, arith}
use Rattle.std.proofs.lemmas.Bool.Decides.{nat_tests}
use Rattle.std.proofs.lemmas.Nat.{pow-add}
use Rattle.std.proofs.Math.Nat.{div-le_self, mul-div_cancel, mul-div-mul_left, div-eq_of_lt, mul_assoc, mul_comm, pow-le-pow_right, lt_of_lt_of_le}
use Rattle.std.proofs.Math.Pow.{shl_exact, shl_lt}
use Rattle.tally_records.specs.Elapsed.{elapsed_of, exponent_of, is_negative, rounded_down, significand_of}

power-positive : (k : ℕ) → 0 < 2 ^ k
power-positive k = pow-le-pow_right {n = 2} (omega arith) {i = 0} {j = k} (omega arith)

-- a number below 1 has no whole tick
pub none_below_one : (s e : ℕ) → s < 2 ^ 24 → e < 127 → 0 ≡ rounded_down s e
unfolding rounded_down
none_below_one s e digits small =
    let product = shl_lt 24 e digits in
    let power : 2 ^ (24 + e) ≤ 2 ^ 150 = pow-le-pow_right {n = 2} (omega arith) {i = 24 + e} {j = 150} (omega arith) in
    sym (div-eq_of_lt (lt_of_lt_of_le product power))

shorter : (s e k : ℕ) → e + k ≡ 150 → rounded_down s e ≡ s / 2 ^ k
unfolding rounded_down
shorter s e k sum =
    ap (λ (n : ℕ). s * 2 ^ e / 2 ^ n) (sym sum)
    ∙ ap (λ (n : ℕ). s * 2 ^ e / n) (pow-add 2 e k)
    ∙ ap (λ (n : ℕ). n / (2 ^ e * 2 ^ k)) (mul_comm s (2 ^ e))
    ∙ mul-div-mul_left s (2 ^ k) (power-positive e)

longer : (s e k : ℕ) → e ≡ k + 150 → rounded_down s e ≡ s * 2 ^ k
unfolding rounded_down
longer s e k sum =
    ap (λ (n : ℕ). s * 2 ^ n / 2 ^ 150) sum
    ∙ ap (λ (n : ℕ). s * n / 2 ^ 150) (pow-add 2 k 150)
    ∙ ap (λ (n : ℕ). n / 2 ^ 150) (sym (mul_assoc s (2 ^ k) (2 ^ 150)))
    ∙ mul-div_cancel (s * 2 ^ k) (power-positive 150)

-- digits after the point are cut off
pub digits_cut_off : (s e : ℕ) → e < 150 → s / 2 ^ (150 - e) ≡ rounded_down s e
digits_cut_off s e h = sym (shorter s e (150 - e) (omega arith))

-- zeros before the point are filled in, and fit in 64 bits
pub zeros_filled_in : (s e : ℕ) → s < 2 ^ 24 → 150 ≤ e → e ≤ 190 → s * 2 ^ (e - 150) % 2 ^ 64 ≡ rounded_down s e
zeros_filled_in s e digits l h =
    shl_exact {a = s} 24 (e - 150) 64 digits (omega arith) ∙ sym (longer s e (e - 150) (omega arith))

-- a time is below 2 ^ 64
pub elapsed_of-bounded : (word : ℕ) → elapsed_of word < 2 ^ 64
unfolding elapsed_of
elapsed_of-bounded word = by (is_negative word || (exponent_of word == 0)) (nat_lt 190 (exponent_of word)) refl
  where
    small : nat_lt 190 (exponent_of word) ≡ false → rounded_down (significand_of word) (exponent_of word) < 2 ^ 64
    small e =
        let s : significand_of word < 2 ^ 24 = omega arith in
        let fits : exponent_of word ≤ 190 = grind (arith, nat_tests) in
        elim (nat_le 150 (exponent_of word)) as (λ b. nat_le 150 (exponent_of word) ≡ b → rounded_down (significand_of word) (exponent_of word) < 2 ^ 64) [
          | true ↦ λ g. subst (λ (n : ℕ). n < 2 ^ 64) (zeros_filled_in (significand_of word) (exponent_of word) s (grind (arith, nat_tests)) fits) (omega arith)
          | false ↦ λ g. subst (λ (n : ℕ). n < 2 ^ 64) (digits_cut_off (significand_of word) (exponent_of word) (grind (arith, nat_tests))) (omega (arith, div-le_self (significand_of word) (2 ^ (150 - exponent_of word))))
        ] refl

    by : (a b : Bool) → nat_lt 190 (exponent_of word) ≡ b → cond a 0 (cond b (2 ^ 64 - 1) (rounded_down (significand_of word) (exponent_of word))) < 2 ^ 64
    by true b e = omega arith
    by false true e = omega arith
    by false false e = small e
