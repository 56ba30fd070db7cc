-- The first NUL of a word, by a word of flags. (Most of it is what the standard library proves of its own search of bytes, which other crates cannot name.)
use mathlib.Core.Path.{◌≡◌, refl, sym, ap, subst, ◌∙◌}
use mathlib.Core.Logic.{⊎_elim, ◌⊎◌, inl, inr}
use mathlib.Core.Bool.{Bool, true, false, not, cond, ◌&&◌, true≢false}
use mathlib.Core.List.{List, [], ◌∷◌}
use Prim.Native.Nat.{ℕ, zero, suc, ◌+◌, ◌*◌, ◌/◌, ◌%◌, ◌^◌, ◌≤◌, ◌<◌}
use native.Mathlib.Omega.{arith}
use lib.Dec.{T, eqb, ltb, eqb→eq, ltb→lt, nltb→le}
use lib.Bits.{bit_and, bit_or, bit_xor, and_block, or_block, xor_block, or_lt, and_le_r}
use lib.Count.{count_trailing_zeros, under}
use lib.Lanes.{mask_l}
use lib.ListN.{get_or, length}
use Rattle.std.proofs.lemmas.List.Sums.{position_or_len_is}
use Rattle.std.proofs.lemmas.Nat.{from_le_bytes-to_le_bytes_8}
use Rattle.tally_records.specs.inside.Compact.Layout.{word_bytes}
use Rattle.tally_records.specs.inside.Compact.Words.{nul_at}
use Rattle.tally_records.proofs.Compact.Laying.{length-word_bytes}

abbrev Bytes : (ℕ → ℕ) → Type 0
Bytes f = (k : ℕ) → f k < 256

-- the number whose digits in base 256 are f k, f (k + 1) and so on, n of them, the least first
abbrev digits_from : (ℕ → ℕ) → ℕ → ℕ → ℕ
digits_from f k zero = 0
digits_from f k (suc n) = f k + 256 * digits_from f (suc k) n

abbrev flag : Bool → ℕ
flag b = cond b 128 0

-- ---- an operation goes by the byte
module _ (o : ℕ → ℕ → ℕ) (zeros : o 0 0 ≡ 0) (block : (k a b r s : ℕ) → r < 2 ^ k → s < 2 ^ k → o (a * 2 ^ k + r) (b * 2 ^ k + s) ≡ o a b * 2 ^ k + o r s) where
  by_byte : (f g : ℕ → ℕ) → Bytes f → Bytes g → (n k : ℕ) → o (digits_from f k n) (digits_from g k n) ≡ digits_from (λ j. o (f j) (g j)) k n
  by_byte f g a b zero k = zeros
  by_byte f g a b (suc n) k =
      let x : f k + 256 * digits_from f (suc k) n ≡ digits_from f (suc k) n * 256 + f k = omega arith in
      let y : g k + 256 * digits_from g (suc k) n ≡ digits_from g (suc k) n * 256 + g k = omega arith in
      (λ i. o (x i) (y i)) ∙ block 8 _ _ _ _ (a k) (b k) ∙ omega (arith, by_byte f g a b n (suc k))

and_Bytes : (f g : ℕ → ℕ) → Bytes f → Bytes g → bit_and (digits_from f 0 8) (digits_from g 0 8) ≡ digits_from (λ j. bit_and (f j) (g j)) 0 8
and_Bytes f g a b = by_byte bit_and refl and_block f g a b 8 0

or_Bytes : (f g : ℕ → ℕ) → Bytes f → Bytes g → bit_or (digits_from f 0 8) (digits_from g 0 8) ≡ digits_from (λ j. bit_or (f j) (g j)) 0 8
or_Bytes f g a b = by_byte bit_or refl or_block f g a b 8 0

xor_Bytes : (f g : ℕ → ℕ) → Bytes f → Bytes g → bit_xor (digits_from f 0 8) (digits_from g 0 8) ≡ digits_from (λ j. bit_xor (f j) (g j)) 0 8
xor_Bytes f g a b = by_byte bit_xor refl xor_block f g a b 8 0

same_digits : (f g : ℕ → ℕ) → ((j : ℕ) → f j ≡ g j) → digits_from f 0 8 ≡ digits_from g 0 8
same_digits f g e = λ i. digits_from (λ j. e j i) 0 8

-- ---- a fact of one byte, by trying each
order : (m n : ℕ) → (m < n) ⊎ (n ≤ m)
order m n = by_test (ltb m n) refl
  where
    by_test : (y : Bool) → ltb m n ≡ y → (m < n) ⊎ (n ≤ m)
    by_test true e = inl (ltb→lt m n (subst T (sym e) tt))
    by_test false e = inr (nltb→le m n (subst (λ (z : Bool). T (not z)) (sym e) tt))

abbrev each_below : ℕ → (ℕ → Bool) → Bool
each_below zero t = true
each_below (suc n) t = t n && each_below n t

tried : (n : ℕ) (t : ℕ → Bool) → each_below n t ≡ true → (b : ℕ) → b < n → t b ≡ true
tried zero t e b l = absurd (omega arith)
tried (suc n) t e b l = by (t n) refl e (tried n t)
  where
    by : (x : Bool) → t n ≡ x → (x && each_below n t) ≡ true → (each_below n t ≡ true → (c : ℕ) → c < n → t c ≡ true) → t b ≡ true
    by true p q rest = ⊎_elim (λ u. rest q b u) (λ u. let same : b ≡ n = omega arith in ap t same ∙ p) (order b n)
    by false p q rest = absurd (true≢false (sym q))

abbrev zero_flag : ℕ → ℕ
zero_flag y = bit_xor (bit_and (bit_or (bit_and y 127 + 127) y) 128) 128

zero_bit : (y : ℕ) → y < 256 → zero_flag y ≡ flag (eqb y 0)
zero_bit y l = eqb→eq _ _ (subst T (sym (tried 256 (λ x. eqb (zero_flag x) (flag (eqb x 0))) refl y l)) tt)

-- 128 in each byte that is NUL
abbrev pub nul_flags : ℕ → ℕ
nul_flags w = bit_xor (bit_and (bit_or (bit_and w 0x7f7f_7f7f_7f7f_7f7f + 0x7f7f_7f7f_7f7f_7f7f) w) 0x8080_8080_8080_8080) 0x8080_8080_8080_8080

nul_flags-digits : (x : ℕ) (y : ℕ → ℕ) → Bytes y → x ≡ digits_from y 0 8 → nul_flags x ≡ digits_from (λ k. flag (eqb (y k) 0)) 0 8
nul_flags-digits x y y_small x-is =
    let low = λ (k : ℕ). bit_and (y k) 127 in
    let sum = λ (k : ℕ). low k + 127 in
    let sum_small : Bytes sum = λ k. omega (arith, and_le_r (y k) 127) in
    let either = λ (k : ℕ). bit_or (sum k) (y k) in
    let either_small : Bytes either = λ k. or_lt 8 (sum k) (y k) (sum_small k) (y_small k) in
    let high = λ (k : ℕ). bit_and (either k) 128 in
    let high_small : Bytes high = λ k. omega (arith, and_le_r (either k) 128) in
    let masked : bit_and x 0x7f7f_7f7f_7f7f_7f7f ≡ digits_from low 0 8 = ap (λ w. bit_and w 0x7f7f_7f7f_7f7f_7f7f) x-is ∙ and_Bytes y (λ _. 127) y_small (λ _. omega arith) in
    let added : digits_from low 0 8 + 0x7f7f_7f7f_7f7f_7f7f ≡ digits_from sum 0 8 = omega arith in
    let joined = (λ j. bit_or ((ap (λ w. w + 0x7f7f_7f7f_7f7f_7f7f) masked ∙ added) j) (x-is j)) ∙ or_Bytes sum y sum_small y_small in
    let kept = ap (λ w. bit_and w 0x8080_8080_8080_8080) joined ∙ and_Bytes either (λ _. 128) either_small (λ _. omega arith) in
    ap (λ w. bit_xor w 0x8080_8080_8080_8080) kept ∙ xor_Bytes high (λ _. 128) high_small (λ _. omega arith) ∙ same_digits _ _ (λ k. zero_bit (y k) (y_small k))

-- ---- a word of flags, bit by bit
none : (bs : List Bool) → mask_l bs ≡ 0 → (k : ℕ) → get_or bs k false ≡ false
none [] e k = refl
none (true ∷ bs) e k = absurd (omega arith)
none (false ∷ bs) e zero = refl
none (false ∷ bs) e (suc k) = none bs (omega arith) k

abbrev Lowest : List Bool → ℕ → Type 0
Lowest bs t = (t < length bs) × (get_or bs t false ≡ true) × ((k : ℕ) → k < t → get_or bs k false ≡ false)

one_up : (bs : List Bool) (t : ℕ) → Lowest bs t → Lowest (false ∷ bs) (suc t)
one_up bs t h = (let a = h.0 in omega arith, h.1, unset)
  where
    unset : (k : ℕ) → k < suc t → get_or (false ∷ bs) k false ≡ false
    unset zero l = refl
    unset (suc k) l = h.2 k (omega arith)

halves : (d n : ℕ) → d < 2 → ((d + 2 * n) % 2 ≡ d) × ((d + 2 * n) / 2 ≡ n)
halves d n l = omega arith

lowest : (w : ℕ) (bs : List Bool) → length bs ≤ w → 0 < mask_l bs → Lowest bs (count_trailing_zeros w (mask_l bs))
unfolding count_trailing_zeros
lowest w [] le some = absurd (omega arith)
lowest zero (b ∷ bs) le some = absurd (omega arith)
lowest (suc w) (true ∷ bs) le some =
    let h = halves 1 (mask_l bs) (omega arith) in
    subst (Lowest (true ∷ bs)) (sym (λ i. under (h.0 i) (count_trailing_zeros w (h.1 i)))) (omega arith, refl, λ k l. absurd (omega arith))
lowest (suc w) (false ∷ bs) le some =
    let h = halves 0 (mask_l bs) (omega arith) in
    subst (Lowest (false ∷ bs)) (sym (λ i. under (h.0 i) (count_trailing_zeros w (h.1 i)))) (one_up bs (count_trailing_zeros w (mask_l bs)) (lowest w bs (omega arith) (omega arith)))

module _ (q : ℕ → Bool) where
  abbrev bits : ℕ → ℕ → List Bool
  bits k zero = []
  bits k (suc n) = false ∷ false ∷ false ∷ false ∷ false ∷ false ∷ false ∷ q k ∷ bits (suc k) n

  one-flag : (b : Bool) → 128 * cond b 1 0 ≡ flag b
  one-flag true = refl
  one-flag false = refl

  spelt : (n k : ℕ) → mask_l (bits k n) ≡ digits_from (λ j. flag (q j)) k n
  spelt zero k = refl
  spelt (suc n) k = omega (arith, spelt n (suc k), one-flag (q k))

  flag_at : (n k j : ℕ) → j < n → get_or (bits k n) (8 * j + 7) false ≡ q (k + j)
  flag_at zero k j l = absurd (omega arith)
  flag_at (suc n) k zero l = ap q (omega arith)
  flag_at (suc n) k (suc j) l =
      let on : 8 * suc j + 7 ≡ suc (suc (suc (suc (suc (suc (suc (suc (8 * j + 7)))))))) = omega arith in
      ap (λ t. get_or (bits k (suc n)) t false) on ∙ flag_at n (suc k) j (omega arith) ∙ ap q (omega arith)

  set_at : (n k t : ℕ) → get_or (bits k n) t false ≡ true → t % 8 ≡ 7
  set_at zero k t e = absurd (true≢false (sym e))
  set_at (suc n) k zero e = absurd (true≢false (sym e))
  set_at (suc n) k (suc zero) e = absurd (true≢false (sym e))
  set_at (suc n) k (suc (suc zero)) e = absurd (true≢false (sym e))
  set_at (suc n) k (suc (suc (suc zero))) e = absurd (true≢false (sym e))
  set_at (suc n) k (suc (suc (suc (suc zero)))) e = absurd (true≢false (sym e))
  set_at (suc n) k (suc (suc (suc (suc (suc zero))))) e = absurd (true≢false (sym e))
  set_at (suc n) k (suc (suc (suc (suc (suc (suc zero)))))) e = absurd (true≢false (sym e))
  set_at (suc n) k (suc (suc (suc (suc (suc (suc (suc zero))))))) e = refl
  set_at (suc n) k (suc (suc (suc (suc (suc (suc (suc (suc t)))))))) e = omega (arith, set_at n (suc k) t e)

  -- no flag is set
  flags_none : (m : ℕ) → m ≡ digits_from (λ j. flag (q j)) 0 8 → m ≡ 0 → (k : ℕ) → k < 8 → q k ≡ false
  flags_none m is e k l = ap q (omega arith) ∙ sym (flag_at 8 0 k l) ∙ none (bits 0 8) (spelt 8 0 ∙ sym is ∙ e) (8 * k + 7)

  -- the lowest flag that is set
  flags_lowest : (m t : ℕ) → m ≡ digits_from (λ j. flag (q j)) 0 8 → 0 < m → t ≡ count_trailing_zeros 64 m → (t / 8 < 8) × (q (t / 8) ≡ true) × ((k : ℕ) → k < t / 8 → q k ≡ false)
  flags_lowest m t is some at =
      let masked : m ≡ mask_l (bits 0 8) = is ∙ sym (spelt 8 0) in
      let found : Lowest (bits 0 8) t = subst (Lowest (bits 0 8)) (sym (at ∙ ap (count_trailing_zeros 64) masked)) (lowest 64 (bits 0 8) (omega arith) (omega (arith, masked, some))) in
      let within : t < 64 = found.0 in
      let seven = set_at 8 0 t found.1 in
      let back : 8 * (t / 8) + 7 ≡ t = omega arith in (
        omega arith,
        ap q (omega arith) ∙ sym (flag_at 8 0 (t / 8) (omega arith)) ∙ ap (λ u. get_or (bits 0 8) u false) back ∙ found.1,
        λ k l. ap q (omega arith) ∙ sym (flag_at 8 0 k (omega arith)) ∙ found.2 (8 * k + 7) (omega arith),
      )

-- ---- the bytes of a word
abbrev byte : ℕ → ℕ → ℕ
byte w k = get_or (word_bytes w) k 0

byte_small : (w k : ℕ) → byte w k < 256
unfolding word_bytes
byte_small w zero = omega arith
byte_small w (suc zero) = omega arith
byte_small w (suc (suc zero)) = omega arith
byte_small w (suc (suc (suc zero))) = omega arith
byte_small w (suc (suc (suc (suc zero)))) = omega arith
byte_small w (suc (suc (suc (suc (suc zero))))) = omega arith
byte_small w (suc (suc (suc (suc (suc (suc zero)))))) = omega arith
byte_small w (suc (suc (suc (suc (suc (suc (suc zero))))))) = omega arith
byte_small w (suc (suc (suc (suc (suc (suc (suc (suc k)))))))) = omega arith

nested : (a b c d e f g h : ℕ) → a + b * 256 + c * 65536 + d * 16777216 + e * 4294967296 + f * 1099511627776 + g * 281474976710656 + h * 72057594037927936
    ≡ a + 256 * (b + 256 * (c + 256 * (d + 256 * (e + 256 * (f + 256 * (g + 256 * (h + 256 * 0)))))))
nested a b c d e f g h = omega arith

digits : (w : ℕ) → w < 2 ^ 64 → w ≡ digits_from (byte w) 0 8
unfolding word_bytes
digits w fits = sym (from_le_bytes-to_le_bytes_8 w fits) ∙ nested (w % 256) (w / 256 % 256) (w / 65536 % 256) (w / 16777216 % 256) (w / 4294967296 % 256) (w / 1099511627776 % 256) (w / 281474976710656 % 256) (w / 72057594037927936 % 256)

is_flags : (w : ℕ) → w < 2 ^ 64 → nul_flags w ≡ digits_from (λ k. flag (eqb (byte w k) 0)) 0 8
is_flags w fits = nul_flags-digits w (byte w) (byte_small w) (digits w fits)

pub nul_at-none : (w : ℕ) → w < 2 ^ 64 → nul_flags w ≡ 0 → 8 ≡ nul_at w
unfolding nul_at
nul_at-none w fits e =
    sym (position_or_len_is (λ b. eqb b 0) (word_bytes w) 8 0 (omega (arith, length-word_bytes w)) (λ k l. flags_none (λ k. eqb (byte w k) 0) (nul_flags w) (is_flags w fits) e k l) (λ l. absurd (omega (arith, length-word_bytes w))))

pub nul_at-some : (w t : ℕ) → w < 2 ^ 64 → 0 < nul_flags w → t ≡ count_trailing_zeros 64 (nul_flags w) → t / 8 ≡ nul_at w
unfolding nul_at
nul_at-some w t fits some at =
    let h = flags_lowest (λ k. eqb (byte w k) 0) (nul_flags w) t (is_flags w fits) some at in
    let within : t / 8 < 8 = h.0 in
    sym (position_or_len_is (λ b. eqb b 0) (word_bytes w) (t / 8) 0 (omega (arith, length-word_bytes w)) h.2 (λ _. h.1))

pub nul_at-within : (w : ℕ) → w < 2 ^ 64 → 0 < nul_flags w → nul_at w < 8
nul_at-within w fits some =
    let at = nul_at-some w (count_trailing_zeros 64 (nul_flags w)) fits some refl in
    let h = flags_lowest (λ k. eqb (byte w k) 0) (nul_flags w) (count_trailing_zeros 64 (nul_flags w)) (is_flags w fits) some refl in
    let within : count_trailing_zeros 64 (nul_flags w) / 8 < 8 = h.0 in
    omega arith
