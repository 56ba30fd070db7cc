-- Products of signed numbers.
use Rattle.std.proofs.Common.{◌≡◌, ℕ, ◌*◌, ◌≤◌, ℤ, pos, neg_ℤ, ◌+ℤ◌, ◌-ℤ◌, ◌*ℤ◌, ◌≤ℤ◌, mul-le-mul, sym, ap, ◌∙◌, arith}
use Rattle.std.proofs.lemmas.Int.{ints, unsigned_abs-mul}
use Rattle.std.proofs.Math.IntN.{*ℤ-zero, zero-*ℤ, *ℤ_comm}
use Rattle.std.specs.Prelude.{unsigned_abs}
use borrow.Author.Differences.{up, down, sum_is_lem}

pub times_sum : (c d x : ℤ) → (c +ℤ d) *ℤ x ≡ c *ℤ x +ℤ d *ℤ x
times_sum c d x = let one = ap (λ (n : ℕ). n * up x) (sum_is_lem c d) in let two = ap (λ (n : ℕ). n * down x) (sum_is_lem c d) in omega (arith, ints, one, two)

pub times_difference : (c x y : ℤ) → c *ℤ (x -ℤ y) ≡ c *ℤ x -ℤ c *ℤ y
times_difference c x y =
    let whole : (x -ℤ y) +ℤ y ≡ x = omega (arith, ints) in
    let parts = times_sum (x -ℤ y) y c in
    let all = ap (λ (z : ℤ). z *ℤ c) whole in
    let one = *ℤ_comm c (x -ℤ y) in
    let two = *ℤ_comm c x in
    let three = *ℤ_comm c y in
    from ((x -ℤ y) *ℤ c) (y *ℤ c) (x *ℤ c) _ _ _ (sym parts ∙ all) one two three
  where
    from : (a b w p q r : ℤ) → a +ℤ b ≡ w → p ≡ a → q ≡ w → r ≡ b → p ≡ q -ℤ r
    from a b w p q r e f g h = omega (arith, ints)

pub times_none : (c x : ℤ) → x ≡ pos 0 → c *ℤ x ≡ pos 0
times_none c x none = ap (λ (z : ℤ). c *ℤ z) none ∙ *ℤ-zero c

pub none_times : (c x : ℤ) → c ≡ pos 0 → c *ℤ x ≡ pos 0
none_times c x none = ap (λ (z : ℤ). z *ℤ x) none ∙ zero-*ℤ x

pub once : (x : ℤ) → pos 1 *ℤ x ≡ x
once x = omega (arith, ints)

pub product-high : (c x : ℤ) (m n : ℕ) → unsigned_abs c ≤ m → unsigned_abs x ≤ n → (c *ℤ x) ≤ℤ pos (m * n)
product-high c x m n h k = omega (arith, ints, unsigned_abs-mul c x, mul-le-mul h k)

pub product-low : (c x : ℤ) (m n : ℕ) → unsigned_abs c ≤ m → unsigned_abs x ≤ n → neg_ℤ (pos (m * n)) ≤ℤ (c *ℤ x)
product-low c x m n h k = omega (arith, ints, unsigned_abs-mul c x, mul-le-mul h k)

pub times_of_sum : (c x y : ℤ) → c *ℤ (x +ℤ y) ≡ c *ℤ x +ℤ c *ℤ y
times_of_sum c x y = *ℤ_comm c (x +ℤ y) ∙ times_sum x y c ∙ (λ i. *ℤ_comm x c i +ℤ *ℤ_comm y c i)
