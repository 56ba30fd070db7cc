-- The shift that multiplies a fraction by a power of 8.
use Rattle.std.proofs.Common.{◌≡◌, ℕ, zero, suc, ◌+◌, ◌*◌, ◌/◌, ◌%◌, ◌^◌, ◌<◌, ◌≤◌, refl, sym, ap, ◌∙◌, arith, subst}
use Rattle.std.proofs.lemmas.Nat.{pow-add}
use Rattle.std.proofs.Math.Nat.{pow-le-pow_right, lt_of_lt_of_le}
use Rattle.std.proofs.Math.Pow.{shl_exact, shl_lt}
use Rattle.tally_records.specs.Compressed.{comp_of}

-- two ways to write a power of 8
power_of_8 : (e : ℕ) → 2 ^ (3 * e) ≡ 8 ^ e
power_of_8 zero = refl
power_of_8 (suc e) =
    let more : 3 * suc e ≡ 3 + 3 * e = omega arith in
    let power = power_of_8 e in
    ap (λ (n : ℕ). 2 ^ n) more ∙ pow-add 2 3 (3 * e) ∙ (let step : 8 * 2 ^ (3 * e) ≡ 8 ^ suc e = omega arith in step)

-- no exponent of 3 bits takes a fraction of 13 bits past 34 bits
pub shifted_out : (f e : ℕ) → f < 2 ^ 13 → e < 8 → f * 2 ^ (3 * e) % 2 ^ 64 ≡ f * 8 ^ e
shifted_out f e digits small = shl_exact {a = f} 13 (3 * e) 64 digits (omega arith) ∙ ap (λ (p : ℕ). f * p) (power_of_8 e)

pub shifted_small : (f e : ℕ) → f < 2 ^ 13 → e < 8 → f * 2 ^ (3 * e) % 2 ^ 64 < 2 ^ 34
shifted_small f e digits small =
    let exact = shl_exact {a = f} 13 (3 * e) 64 digits (omega arith) in
    let below = shl_lt 13 (3 * e) digits in
    let power : 2 ^ (13 + 3 * e) ≤ 2 ^ 34 = pow-le-pow_right {n = 2} (omega arith) {i = 13 + 3 * e} {j = 34} (omega arith) in
    subst (λ (n : ℕ). n < 2 ^ 34) (sym exact) (lt_of_lt_of_le below power)

-- a word of 16 bits has a value of 34
pub comp_of-bounded : (c : ℕ) → c < 65536 → comp_of c < 2 ^ 34
comp_of-bounded c word =
    let e : c / 8192 < 8 = omega arith in
    let f : c % 8192 < 2 ^ 13 = omega arith in
    subst (λ (n : ℕ). n < 2 ^ 34) (shifted_out (c % 8192) (c / 8192) f e) (shifted_small (c % 8192) (c / 8192) f e)
