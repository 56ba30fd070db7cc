-- The words of a key and the name that they stand for.
use Rattle.std.proofs.Common.{◌≡◌, ℕ, zero, suc, ◌+◌, ◌-◌, ◌*◌, ◌/◌, ◌<◌, ◌≤◌, Bool, true, false, cond, fold, ◌==◌, List, [], ◌∷◌, ◌++◌, length, map, take, drop, get_or, replicate, Decides, nat_eq, refl, sym, ap, subst, ◌∙◌, arith}
use Rattle.std.specs.Cmp.Lexicographic.{pointwise}
use Rattle.std.proofs.lemmas.Bool.Decides.{nat_tests, same_from_decides}
use Rattle.std.proofs.lemmas.Grind.{flat_map-append}
use Rattle.std.specs.Hash.{le_bytes}
use Rattle.std.specs.Simd.{first_chunks}
use Rattle.std.proofs.lemmas.List.{append-nil, drop-replicate, get_or-drop, length-drop, length-take-le, replicate-append-replicate, take-append-drop}
use Rattle.std.proofs.lemmas.Slice.Eq.{bytes_eq-Decides}
use Rattle.tally_records.specs.inside.Compact.Keys.{word_in, words_back, writes_of}
use Rattle.tally_records.specs.Text.{field_words, word_of}
use Rattle.tally_records.specs.inside.Compact.Layout.{bytes_of, field_of, word_bytes}
use Rattle.tally_records.proofs.Compact.Laying.{length-bytes_of}
use Rattle.tally_records.proofs.Compact.TextWords.{bytes_word, small-take}

-- words are equal where their bytes are
pub same_words : (ws vs : List ℕ) → ((i : ℕ) → get_or ws i 0 < 18446744073709551616) → ((i : ℕ) → get_or vs i 0 < 18446744073709551616) → pointwise nat_eq ws vs ≡ pointwise nat_eq (bytes_of ws) (bytes_of vs)
same_words ws vs a b =
    let words : Decides (pointwise nat_eq ws vs) (ws ≡ vs) = bytes_eq-Decides ws vs in
    let by_words : Decides (pointwise nat_eq ws vs) (bytes_of ws ≡ bytes_of vs) =
    (λ e. ap bytes_of (words.0 e), λ p. words.1 (sym (words_back ws a) ∙ ap (λ (bs : List ℕ). field_words bs) p ∙ words_back vs b)) in
    same_from_decides (pointwise nat_eq ws vs) (pointwise nat_eq (bytes_of ws) (bytes_of vs)) by_words (bytes_eq-Decides (bytes_of ws) (bytes_of vs))

name_back : (k : ℕ) (name : List ℕ) → length name ≡ 8 * k → ((i : ℕ) → get_or name i 0 < 256) → bytes_of (map word_of (first_chunks 8 k name)) ≡ name
name_back zero [] l small = refl
name_back zero (b ∷ bs) l small = absurd (omega arith)
name_back (suc k) name l small =
    let front : word_bytes (word_of (take 8 name)) ≡ take 8 name = bytes_word (take 8 name) (length-take-le 8 name (omega arith)) (small-take 8 name small) in
    let rest : bytes_of (map word_of (first_chunks 8 k (drop 8 name))) ≡ drop 8 name =
    name_back k (drop 8 name) (omega (arith, length-drop 8 name)) (λ i. subst (λ (b : ℕ). b < 256) (sym (get_or-drop 8 name i 0)) (small (8 + i))) in
    (λ i. front i ++ rest i) ∙ take-append-drop 8 name

-- a name comes back from its words
pub four_words : (name : List ℕ) (chunks : List (List ℕ)) (d : List ℕ) → length name ≡ 32 → ((i : ℕ) → get_or name i 0 < 256) → chunks ≡ first_chunks 8 (length name / 8) name
    → bytes_of (word_of (get_or chunks 0 d) ∷ word_of (get_or chunks 1 d) ∷ word_of (get_or chunks 2 d) ∷ word_of (get_or chunks 3 d) ∷ []) ≡ name
four_words name chunks d l small e =
    let four : length name / 8 ≡ 4 = omega arith in
    let they : chunks ≡ first_chunks 8 4 name = e ∙ ap (λ (k : ℕ). first_chunks 8 k name) four in
    ap (λ (cs : List (List ℕ)). bytes_of (word_of (get_or cs 0 d) ∷ word_of (get_or cs 1 d) ∷ word_of (get_or cs 2 d) ∷ word_of (get_or cs 3 d) ∷ [])) they
    ∙ name_back 4 name l small

zero_word : word_bytes 0 ≡ replicate 8 0
unfolding word_bytes
zero_word = refl

zero_words : (n : ℕ) → bytes_of (replicate n 0) ≡ replicate (8 * n) 0
zero_words zero = refl
zero_words (suc n) =
    let more : 8 + 8 * n ≡ 8 * suc n = omega arith in
    (λ i. zero_word i ++ zero_words n i) ∙ replicate-append-replicate 8 (8 * n) 0 ∙ ap (λ (k : ℕ). replicate k 0) more

-- the words of a text, and then words of zeros
pub padded_words : (words : List ℕ) → length words ≤ 4 → bytes_of (words ++ drop (length words) (0 ∷ 0 ∷ 0 ∷ 0 ∷ [])) ≡ field_of 32 words
unfolding field_of
padded_words words few =
    let left : 8 * (4 - length words) ≡ 32 - length (bytes_of words) = omega (arith, length-bytes_of words) in
    flat_map-append word_bytes words (drop (length words) (0 ∷ 0 ∷ 0 ∷ 0 ∷ []))
    ∙ ap (λ (bs : List ℕ). bytes_of words ++ bs) (ap bytes_of (drop-replicate (length words) 4 0) ∙ zero_words (4 - length words) ∙ ap (λ (k : ℕ). replicate k 0) left)

-- the words of a text by their places
pub words_by_place : (ws : List ℕ) → length ws ≤ 4 → bytes_of (get_or ws 0 0 ∷ get_or ws 1 0 ∷ get_or ws 2 0 ∷ get_or ws 3 0 ∷ []) ≡ field_of 32 ws
words_by_place ws few = ap bytes_of (by ws few) ∙ padded_words ws few
  where
    by : (vs : List ℕ) → length vs ≤ 4 → get_or vs 0 0 ∷ get_or vs 1 0 ∷ get_or vs 2 0 ∷ get_or vs 3 0 ∷ [] ≡ vs ++ drop (length vs) (0 ∷ 0 ∷ 0 ∷ 0 ∷ [])
    by [] l = refl
    by (a ∷ []) l = refl
    by (a ∷ b ∷ []) l = refl
    by (a ∷ b ∷ d ∷ []) l = refl
    by (a ∷ b ∷ d ∷ e ∷ []) l = refl
    by (a ∷ b ∷ d ∷ e ∷ f ∷ gs) l = absurd (omega (arith, l))

-- four words fill their field
pub whole_field : (words : List ℕ) → length words ≡ 4 → field_of 32 words ≡ bytes_of words
unfolding field_of
whole_field words four =
    let none : 32 - length (bytes_of words) ≡ 0 = omega (arith, length-bytes_of words) in
    ap (λ (k : ℕ). bytes_of words ++ replicate k 0) none ∙ append-nil (bytes_of words)

-- how a name is hashed, by its second word
module _ {S : Type 0} (write : S → List ℕ → S) (s : S) (name : List ℕ) where
  pub one_write : word_in name 1 ≡ 0 → write s (le_bytes 8 (word_in name 0)) ≡ fold write s (writes_of name)
  one_write e =
      let test : (word_in name 1 == 0) ≡ true = grind (arith, nat_tests) in
      ap (λ (b : Bool). fold write (write s (le_bytes 8 (word_in name 0))) (cond b [] (le_bytes 8 (word_in name 1) ∷ le_bytes 8 (word_in name 2) ∷ le_bytes 8 (word_in name 3) ∷ []))) (sym test)

  pub four_writes : (word_in name 1 ≡ 0 → ⊥) → write (write (write (write s (le_bytes 8 (word_in name 0))) (le_bytes 8 (word_in name 1))) (le_bytes 8 (word_in name 2))) (le_bytes 8 (word_in name 3)) ≡ fold write s (writes_of name)
  four_writes e =
      let test : (word_in name 1 == 0) ≡ false = grind (arith, nat_tests) in
      ap (λ (b : Bool). fold write (write s (le_bytes 8 (word_in name 0))) (cond b [] (le_bytes 8 (word_in name 1) ∷ le_bytes 8 (word_in name 2) ∷ le_bytes 8 (word_in name 3) ∷ []))) (sym test)
