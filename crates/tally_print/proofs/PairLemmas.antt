-- The digits of the numbers below 100, as the table has them.
use Rattle.std.proofs.Common.{◌≡◌, ℕ, ◌+◌, ◌*◌, ◌/◌, ◌%◌, ◌<◌, ◌≤◌, ◌^◌, ◌++◌, ◌∙◌, ap, Bool, true, ◌&&◌, ◌==◌, get_or, arith, refl}
use Rattle.std.proofs.lemmas.Bool.{agree_below_at}
use Rattle.std.proofs.lemmas.Bool.Decides.{nat_tests}
use Rattle.itoa.proofs.Decimal.{decimal_pair, decimal_two}
use Rattle.std.proofs.lemmas.List.{append_assoc}
use Rattle.std.specs.Fmt.{decimal}
use Rattle.tally_print.specs.Text.{two}
use Rattle.tally_print.specs.declared.text.TheConstants.{PAIRS}

-- the pair at a number is its digits
abbrev is_pair : ℕ → Bool
is_pair n = get_or PAIRS (2 * n) 0 == 48 + n / 10 && get_or PAIRS (2 * n + 1) 0 == 48 + n % 10

-- the two bytes at a number are its digits
pub pair_at : (n : ℕ) → n < 100 → (get_or PAIRS (2 * n) 0 ≡ 48 + n / 10) × (get_or PAIRS (2 * n + 1) 0 ≡ 48 + n % 10)
pair_at n below =
    let is : is_pair n ≡ true = agree_below_at is_pair (λ _. true) 100 n refl below in
    (grind (arith, nat_tests), grind (arith, nat_tests))

-- the last two digits of a number, and those before them
digits_before : (n m : ℕ) → 100 ≤ n → n < 2 ^ 64 → n / 100 ≡ m → decimal n ≡ decimal m ++ two (n % 100)
digits_before n m low high is = decimal_pair n low high ∙ ap (λ k. decimal k ++ two (n % 100)) is

-- a number of ten digits, two by two
pub ten_digits_are : (n : ℕ) → 1_000_000_000 ≤ n → n < 2 ^ 32 → decimal n ≡ two (n / 100_000_000) ++ two (n / 1_000_000 % 100) ++ two (n / 10_000 % 100) ++ two (n / 100 % 100) ++ two (n % 100)
ten_digits_are n low high =
    let a = decimal_two (n / 100_000_000) (omega arith) (omega arith) in
    let b = digits_before (n / 1_000_000) (n / 100_000_000) (omega arith) (omega arith) (omega arith) in
    let c = digits_before (n / 10_000) (n / 1_000_000) (omega arith) (omega arith) (omega arith) in
    let d = digits_before (n / 100) (n / 10_000) (omega arith) (omega arith) (omega arith) in
    let e = digits_before n (n / 100) (omega arith) (omega arith) refl in
    e ∙ rw (d, c, b, a) (simp append_assoc)
