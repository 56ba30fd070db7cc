-- Words with the first byte as the highest are in the order of their bytes.
use Rattle.std.proofs.Common.{◌≡◌, ◌∙◌, ℕ, zero, suc, ◌+◌, ◌*◌, ◌^◌, ◌%◌, ◌<◌, ◌≤◌, List, [], ◌∷◌, ◌++◌, length, get_or, refl, sym, ap, subst, inl, inr, arith, Ordering}
use Rattle.std.proofs.lemmas.Bool.{cases_lt}
use Rattle.std.proofs.lemmas.Bool.Decides.{nat_tests}
use Rattle.std.proofs.lemmas.Nat.{from_be_bytes-to_be_bytes_8}
use Rattle.std.proofs.Math.Nat.{mul-le-mul_right, pow-suc}
use Rattle.std.specs.Cmp.Lexicographic.{slice_cmp}
use Rattle.std.specs.Int.{w64, from_be_bytes, to_be_bytes}
use Rattle.std.specs.Ordering.{nat_cmp, ordering_then}
use Rattle.std.specs.declared.cmp.Ordering.TheVariants.{Less, Equal, Greater}
use Rattle.tally_sessions.specs.inside.Names.{Fit, name_of, word_bytes}

less : (x y : ℕ) → x < y → nat_cmp x y ≡ Less
less x y h = grind (arith, nat_tests)

more : (x y : ℕ) → y < x → nat_cmp x y ≡ Greater
more x y h = grind (arith, nat_tests)

same : (x y : ℕ) → x ≡ y → nat_cmp x y ≡ Equal
same x y h = grind (arith, nat_tests)

-- the higher digit decides, and else the lower
by_digits : (p q s r t : ℕ) → r < p → t < p → ordering_then (nat_cmp q s) (nat_cmp r t) ≡ nat_cmp (q * p + r) (s * p + t)
by_digits p q s r t rp tp = elim (cases_lt q s) [
  | inl lt ↦ ap (λ o. ordering_then o (nat_cmp r t)) (less q s lt) ∙ sym (less (q * p + r) (s * p + t) (apart q s r t lt rp))
  | inr le ↦ elim (cases_lt s q) [
    | inl gt ↦ ap (λ o. ordering_then o (nat_cmp r t)) (more q s gt) ∙ sym (more (q * p + r) (s * p + t) (apart s q t r gt tp))
    | inr ge ↦
        let is : q ≡ s = omega (arith, le, ge) in
        ap (λ o. ordering_then o (nat_cmp r t)) (same q s is) ∙ lower r t (s * p) ∙ ap (λ m. nat_cmp (m * p + r) (s * p + t)) (sym is)
  ]
]
  where
    apart : (a b m n : ℕ) → a < b → m < p → a * p + m < b * p + n
    apart a b m n lt mp =
        let up : suc a ≤ b = omega (arith, lt) in
        let le = mul-le-mul_right p up in
        omega (arith, le, mp)

    lower : (m n k : ℕ) → nat_cmp m n ≡ nat_cmp (k + m) (k + n)
    lower m n k = elim (cases_lt m n) [
      | inl lt ↦ less m n lt ∙ sym (less (k + m) (k + n) (omega (arith, lt)))
      | inr le ↦ elim (cases_lt n m) [
        | inl gt ↦ more m n gt ∙ sym (more (k + m) (k + n) (omega (arith, gt)))
        | inr ge ↦ same m n (omega (arith, le, ge)) ∙ sym (same (k + m) (k + n) (omega (arith, le, ge)))
      ]
    ]

-- the number of bytes, the highest first
abbrev worth : List ℕ → ℕ
worth [] = 0
worth (b ∷ bytes) = b * 256 ^ length bytes + worth bytes

abbrev IsSmall : List ℕ → Type 0
IsSmall bytes = (i : ℕ) → get_or bytes i 0 < 256

few : (bytes : List ℕ) → IsSmall bytes → worth bytes < 256 ^ length bytes
few [] small = omega arith
few (b ∷ bytes) small =
    let p = 256 ^ length bytes in
    let rest = few bytes (λ i. small (suc i)) in
    let one : suc b ≤ 256 = omega (arith, small 0) in
    let up = mul-le-mul_right p one in
    omega (arith, rest, up, pow-suc 256 (length bytes))

in_order : (xs ys : List ℕ) → length xs ≡ length ys → IsSmall xs → IsSmall ys → slice_cmp nat_cmp xs ys ≡ nat_cmp (worth xs) (worth ys)
in_order [] [] l a b = sym (same 0 0 refl)
in_order [] (y ∷ ys) l a b = absurd (omega (arith, l))
in_order (x ∷ xs) [] l a b = absurd (omega (arith, l))
in_order (x ∷ xs) (y ∷ ys) l a b =
    let long : length xs ≡ length ys = omega (arith, l) in
    let tail = in_order xs ys long (λ i. a (suc i)) (λ i. b (suc i)) in
    ap (ordering_then (nat_cmp x y)) tail
    ∙ by_digits (256 ^ length xs) x y (worth xs) (worth ys) (few xs (λ i. a (suc i))) (subst (λ n. worth ys < 256 ^ n) (sym long) (few ys (λ i. b (suc i))))
    ∙ ap (λ n. nat_cmp (x * 256 ^ length xs + worth xs) (y * 256 ^ n + worth ys)) long

eight : (b7 b6 b5 b4 b3 b2 b1 b0 n : ℕ) → from_be_bytes w64 (b7 ∷ b6 ∷ b5 ∷ b4 ∷ b3 ∷ b2 ∷ b1 ∷ b0 ∷ []) ≡ n → worth (b7 ∷ b6 ∷ b5 ∷ b4 ∷ b3 ∷ b2 ∷ b1 ∷ b0 ∷ []) ≡ n
eight b7 b6 b5 b4 b3 b2 b1 b0 n is = omega (arith, is)

worth_of : (w : ℕ) → w < 18446744073709551616 → worth (to_be_bytes w64 w) ≡ w
worth_of w fits = eight _ _ _ _ _ _ _ _ w (from_be_bytes-to_be_bytes_8 w fits)

byte : (n : ℕ) → n % 256 < 256
byte n = omega arith

bytes_small : (w : ℕ) → IsSmall (to_be_bytes w64 w)
bytes_small w zero = byte _
bytes_small w (suc zero) = byte _
bytes_small w (suc (suc zero)) = byte _
bytes_small w (suc (suc (suc zero))) = byte _
bytes_small w (suc (suc (suc (suc zero)))) = byte _
bytes_small w (suc (suc (suc (suc (suc zero))))) = byte _
bytes_small w (suc (suc (suc (suc (suc (suc zero)))))) = byte _
bytes_small w (suc (suc (suc (suc (suc (suc (suc zero))))))) = byte _
bytes_small w (suc (suc (suc (suc (suc (suc (suc (suc i)))))))) = omega arith

word_order : (a b : ℕ) → a < 18446744073709551616 → b < 18446744073709551616 → slice_cmp nat_cmp (word_bytes a) (word_bytes b) ≡ nat_cmp a b
unfolding word_bytes
word_order a b fa fb =
    in_order (to_be_bytes w64 a) (to_be_bytes w64 b) refl (bytes_small a) (bytes_small b) ∙ (λ i. nat_cmp (worth_of a fa i) (worth_of b fb i))

then_then : (a b c : Ordering) → ordering_then (ordering_then a b) c ≡ ordering_then a (ordering_then b c)
then_then Less b c = refl
then_then Equal b c = refl
then_then Greater b c = refl

in_parts : (xs ys us vs : List ℕ) → length xs ≡ length ys → slice_cmp nat_cmp (xs ++ us) (ys ++ vs) ≡ ordering_then (slice_cmp nat_cmp xs ys) (slice_cmp nat_cmp us vs)
in_parts [] [] us vs l = refl
in_parts [] (y ∷ ys) us vs l = absurd (omega (arith, l))
in_parts (x ∷ xs) [] us vs l = absurd (omega (arith, l))
in_parts (x ∷ xs) (y ∷ ys) us vs l =
    ap (ordering_then (nat_cmp x y)) (in_parts xs ys us vs (omega (arith, l))) ∙ sym (then_then (nat_cmp x y) (slice_cmp nat_cmp xs ys) (slice_cmp nat_cmp us vs))

word_long : (a b : ℕ) → length (word_bytes a) ≡ length (word_bytes b)
unfolding word_bytes
word_long a b = refl

first_word : (a b : ℕ) (us vs : List ℕ) → a < 18446744073709551616 → b < 18446744073709551616
    → slice_cmp nat_cmp (word_bytes a ++ us) (word_bytes b ++ vs) ≡ ordering_then (nat_cmp a b) (slice_cmp nat_cmp us vs)
first_word a b us vs fa fb =
    in_parts (word_bytes a) (word_bytes b) us vs (word_long a b) ∙ ap (λ o. ordering_then o (slice_cmp nat_cmp us vs)) (word_order a b fa fb)

-- the first words that differ decide
pub by_words : {a b c d x y z w : ℕ} → Fit a b c d → Fit x y z w → {m n : List ℕ} → name_of a b c d ≡ m → name_of x y z w ≡ n
    → slice_cmp nat_cmp m n ≡ ordering_then (nat_cmp a x) (ordering_then (nat_cmp b y) (ordering_then (nat_cmp c z) (nat_cmp d w)))
by_words {a} {b} {c} {d} {x} {y} {z} {w} h k m_is n_is =
    (λ i. slice_cmp nat_cmp (sym m_is i) (sym n_is i))
    ∙ first_word a x _ _ h.first k.first
    ∙ ap (ordering_then (nat_cmp a x)) (first_word b y _ _ h.second k.second
    ∙ ap (ordering_then (nat_cmp b y)) (first_word c z _ _ h.third k.third ∙ ap (ordering_then (nat_cmp c z)) (word_order d w h.fourth k.fourth)))

pub decided : (x y : ℕ) (o : Ordering) → (x ≡ y → ⊥) → ordering_then (nat_cmp x y) o ≡ nat_cmp x y
decided x y o apart = elim (cases_lt x y) [
  | inl lt ↦ ap (λ r. ordering_then r o) (less x y lt) ∙ sym (less x y lt)
  | inr le ↦ elim (cases_lt y x) [
    | inl gt ↦ ap (λ r. ordering_then r o) (more x y gt) ∙ sym (more x y gt)
    | inr ge ↦ absurd (apart (omega (arith, le, ge)))
  ]
]

pub level : (x y : ℕ) (o : Ordering) → x ≡ y → ordering_then (nat_cmp x y) o ≡ o
level x y o is = ap (λ r. ordering_then r o) (same x y is)
