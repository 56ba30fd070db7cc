-- A field's text, by the place of its first NUL.
use Rattle.std.proofs.Common.{◌≡◌, ℕ, ◌≤◌, ◌-◌, List, ◌++◌, length, take, drop, replicate, Bool, true, false, cond, Some, None, unwrap_or, ◌==◌, refl, sym, ap, subst, ◌∙◌, arith}
use Rattle.std.proofs.lemmas.Bool.Decides.{nat_tests}
use Rattle.std.proofs.lemmas.List.{drop-replicate, length-take-le}
use Rattle.std.proofs.lemmas.List.Sums.{prefix_len-le-length}
use Rattle.std.proofs.Math.Dec.{ltb}
use Rattle.std.specs.List.{position, position_or_len}
use Rattle.tally_records.specs.Text.{text_of, padded}

unwrapped : (b : Bool) (i n : ℕ) → i ≤ n → ltb i n ≡ b → unwrap_or (cond b (Some i) None) n ≡ i
unwrapped true i n within e = refl
unwrapped false i n within e = grind (arith, nat_tests)

-- the first place that passes, or else the length
pub first_or_length : (p : ℕ → Bool) (xs : List ℕ) → unwrap_or (position p xs) (length xs) ≡ position_or_len p xs
first_or_length p xs =
    unwrapped (ltb (position_or_len p xs) (length xs)) (position_or_len p xs) (length xs) (prefix_len-le-length _ xs) refl

pub first_or_length-le : (p : ℕ → Bool) (xs : List ℕ) → unwrap_or (position p xs) (length xs) ≤ length xs
first_or_length-le p xs = subst (λ (n : ℕ). n ≤ length xs) (sym (first_or_length p xs)) (prefix_len-le-length _ xs)

-- what stands before the first NUL, and then zeros up to n bytes
pub text_of_is : (n : ℕ) (field : List ℕ) (end : ℕ) → end ≡ position_or_len (λ b. b == 0) field → end ≤ length field → take end field ++ drop end (replicate n 0) ≡ text_of n field
unfolding text_of
text_of_is n field end e within =
    let len : length (take end field) ≡ end = length-take-le end field within in
    ap (λ (zs : List ℕ). take end field ++ zs) (drop-replicate end n 0)
    ∙ ap (λ (k : ℕ). take end field ++ replicate (n - k) 0) (sym len)
    ∙ ap (λ (k : ℕ). padded n (take k field)) e

-- where a field ends
pub text_end : (field : List ℕ) (end : ℕ) → end ≡ unwrap_or (position (λ b. b == 0) field) (length field) → (end ≡ position_or_len (λ b. b == 0) field) × (end ≤ length field)
text_end field end e = (e ∙ first_or_length _ field, subst (λ (k : ℕ). k ≤ length field) (sym e) (first_or_length-le _ field))
