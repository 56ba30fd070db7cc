-- The words of a name and the name that they stand for.
use Rattle.std.proofs.Common.{◌≡◌, ◌∙◌, ℕ, zero, suc, ◌+◌, ◌/◌, ◌<◌, ◌≤◌, List, [], ◌∷◌, ◌++◌, length, take, drop, get_or, refl, sym, ap, subst, arith}
use Rattle.std.specs.Simd.{first_chunks}
use Rattle.std.proofs.lemmas.List.{get_or-drop, length-drop, length-take-le, take-append-drop}
use Rattle.std.proofs.Math.Seq.{take-length}
use Rattle.std.proofs.lemmas.Nat.{be_bytes_8}
use Rattle.tally_sessions.specs.inside.Names.{name_of, word_bytes, word_of}

abbrev IsSmall : List ℕ → Type 0
IsSmall bytes = (i : ℕ) → get_or bytes i 0 < 256

-- eight bytes come back from their word
bytes_word : (bytes : List ℕ) → length bytes ≡ 8 → IsSmall bytes → word_bytes (word_of bytes) ≡ bytes
unfolding word_bytes word_of
bytes_word bytes l small = be_bytes_8 bytes _ l small refl

small-take : (n : ℕ) (bytes : List ℕ) → IsSmall bytes → IsSmall (take n bytes)
small-take zero bytes small i = omega arith
small-take (suc n) [] small i = small i
small-take (suc n) (b ∷ bytes) small zero = small 0
small-take (suc n) (b ∷ bytes) small (suc i) = small-take n bytes (λ j. small (suc j)) i

small-drop : (n : ℕ) (bytes : List ℕ) → IsSmall bytes → IsSmall (drop n bytes)
small-drop n bytes small i = subst (λ (b : ℕ). b < 256) (sym (get_or-drop n bytes i 0)) (small (n + i))

-- the first eight bytes by their word, and the rest
front : (bytes rest : List ℕ) → 8 ≤ length bytes → IsSmall bytes → rest ≡ drop 8 bytes → word_bytes (word_of (take 8 bytes)) ++ rest ≡ bytes
front bytes rest l small is =
    (λ i. bytes_word (take 8 bytes) (length-take-le 8 bytes l) (small-take 8 bytes small) i ++ is i) ∙ take-append-drop 8 bytes

last : (bytes : List ℕ) → length bytes ≡ 8 → IsSmall bytes → word_bytes (word_of (take 8 bytes)) ≡ bytes
last bytes l small =
    bytes_word (take 8 bytes) (length-take-le 8 bytes (omega (arith, l))) (small-take 8 bytes small) ∙ ap (λ (n : ℕ). take n bytes) (sym l) ∙ take-length bytes

-- a name comes back from its words
pub four_words : (name : List ℕ) (chunks : List (List ℕ)) (d : List ℕ) → length name ≡ 32 → ((i : ℕ) → get_or name i 0 < 256) → chunks ≡ first_chunks 8 (length name / 8) name
    → name_of (word_of (get_or chunks 0 d)) (word_of (get_or chunks 1 d)) (word_of (get_or chunks 2 d)) (word_of (get_or chunks 3 d)) ≡ name
four_words name chunks d l small e =
    let four : length name / 8 ≡ 4 = omega arith in
    let they : chunks ≡ first_chunks 8 4 name = e ∙ ap (λ (k : ℕ). first_chunks 8 k name) four in
    let second = drop 8 name in
    let third = drop 8 second in
    let fourth = drop 8 third in
    let l2 = length-drop 8 name in
    let l3 = length-drop 8 second in
    let l4 = length-drop 8 third in
    let s2 = small-drop 8 name small in
    let s3 = small-drop 8 second s2 in
    let s4 = small-drop 8 third s3 in
    ap (λ (cs : List (List ℕ)). name_of (word_of (get_or cs 0 d)) (word_of (get_or cs 1 d)) (word_of (get_or cs 2 d)) (word_of (get_or cs 3 d))) they
    ∙ front name _ (omega (arith, l)) small
    (front second _ (omega (arith, l, l2)) s2 (front third _ (omega (arith, l, l2, l3)) s3 (last fourth (omega (arith, l, l2, l3, l4)) s4)))
