-- The words of a text stand for the text of its field.
use Rattle.std.proofs.Common.{◌≡◌, ℕ, zero, suc, ◌+◌, ◌-◌, ◌*◌, ◌/◌, ◌%◌, ◌^◌, ◌<◌, ◌≤◌, Bool, true, false, cond, eqb, ltb, ◌==◌, List, [], ◌∷◌, ◌++◌, length, take, drop, map, get_or, replicate, length-append, append_assoc, refl, sym, ap, subst, ◌∙◌, arith}
use Rattle.std.specs.List.{position_or_len}
use Rattle.std.specs.Simd.{first_chunks}
use Rattle.std.proofs.Math.Seq.{take-append-add}
use Rattle.std.proofs.lemmas.Bool.Decides.{nat_tests}
use Rattle.std.proofs.lemmas.List.{append-nil, drop-replicate, get_or-drop, length-drop, length-map, length-take-le, replicate-append-replicate, take-append-drop, take-append-le}
use Rattle.std.proofs.lemmas.List.Folds.{prefix_len-append}
use Rattle.std.proofs.lemmas.List.Sums.{prefix_len-le-length}
use Rattle.std.proofs.lemmas.Nat.{le_bytes_8}
use Rattle.tally_records.specs.Text.{text_of, field_words, word_of}
use Rattle.tally_records.proofs.Texts.{text_of_is}
use Rattle.tally_records.specs.inside.Compact.Layout.{bytes_of, field_of, word_bytes}
use Rattle.tally_records.specs.inside.Compact.Words.{last_word, nul_at, text_words}
use Rattle.tally_records.proofs.Compact.Laying.{length-bytes_of}

-- the text of a field, in as many bytes
abbrev kept : List ℕ → List ℕ
kept field = text_of (length field) field

-- the place of the first NUL
abbrev end_of : List ℕ → ℕ
end_of bytes = position_or_len (λ b. b == 0) bytes

-- ---- texts in two parts
end_front : (b : Bool) (m n e : ℕ) → b ≡ true → cond b (m + n) e ≡ m + n
end_front true m n e h = refl
end_front false m n e h = cc

end_here : (b : Bool) (m e : ℕ) → b ≡ false → cond b m e ≡ e
end_here true m e h = cc
end_here false m e h = refl

pub text_front : (bytes rest : List ℕ) → end_of bytes ≡ length bytes → kept (bytes ++ rest) ≡ bytes ++ kept rest
text_front bytes rest whole =
    let e = end_of rest in
    let within : e ≤ length rest = prefix_len-le-length _ rest in
    let at : end_of (bytes ++ rest) ≡ length bytes + e = prefix_len-append _ bytes rest ∙ end_front _ (length bytes) e (end_of bytes) (grind (arith, nat_tests)) in
    let long : length (bytes ++ rest) ≡ length bytes + length rest = length-append bytes rest in
    let left : length (bytes ++ rest) - (length bytes + e) ≡ length rest - e = omega arith in
    let zeros : drop (length bytes + e) (replicate (length (bytes ++ rest)) 0) ≡ drop e (replicate (length rest) 0) =
    drop-replicate (length bytes + e) (length (bytes ++ rest)) 0 ∙ ap (λ (n : ℕ). replicate n 0) left ∙ sym (drop-replicate e (length rest) 0) in
    sym (text_of_is (length (bytes ++ rest)) (bytes ++ rest) (length bytes + e) (sym at) (omega arith))
    ∙ (λ i. take-append-add bytes rest e i ++ zeros i)
    ∙ append_assoc bytes (take e rest) (drop e (replicate (length rest) 0))
    ∙ ap (λ (bs : List ℕ). bytes ++ bs) (text_of_is (length rest) rest e refl within)

pub text_cut : (bytes rest : List ℕ) (e : ℕ) → end_of bytes ≡ e → e < length bytes → kept (bytes ++ rest) ≡ take e bytes ++ replicate (length bytes + length rest - e) 0
text_cut bytes rest e at l =
    let long : length (bytes ++ rest) ≡ length bytes + length rest = length-append bytes rest in
    let there : end_of (bytes ++ rest) ≡ e = prefix_len-append _ bytes rest ∙ end_here _ (length bytes + end_of rest) (end_of bytes) (grind (arith, nat_tests)) ∙ at in
    sym (text_of_is (length (bytes ++ rest)) (bytes ++ rest) e (sym there) (omega arith))
    ∙ (λ i. take-append-le e bytes rest (omega arith) i ++ drop-replicate e (length (bytes ++ rest)) 0 i)
    ∙ ap (λ (n : ℕ). take e bytes ++ replicate (n - e) 0) long

-- ---- words
pub bytes_word : (bytes : List ℕ) → length bytes ≡ 8 → ((i : ℕ) → get_or bytes i 0 < 256) → word_bytes (word_of bytes) ≡ bytes
unfolding word_bytes word_of
bytes_word bytes l small = le_bytes_8 bytes _ l small refl

eight : (a b c d e f g h a' b' c' d' e' f' g' h' : ℕ) → a ≡ a' → b ≡ b' → c ≡ c' → d ≡ d' → e ≡ e' → f ≡ f' → g ≡ g' → h ≡ h'
    → a ∷ b ∷ c ∷ d ∷ e ∷ f ∷ g ∷ h ∷ [] ≡ a' ∷ b' ∷ c' ∷ d' ∷ e' ∷ f' ∷ g' ∷ h' ∷ []
eight a b c d e f g h a' b' c' d' e' f' g' h' p q r s t u v w = λ i. p i ∷ q i ∷ r i ∷ s i ∷ t i ∷ u i ∷ v i ∷ w i ∷ []

low_bytes : (w c : ℕ) → c < 8 → word_bytes (w % 256 ^ c) ≡ take c (word_bytes w) ++ replicate (8 - c) 0
unfolding word_bytes
low_bytes w zero l = eight _ _ _ _ _ _ _ _ _ _ _ _ _ _ _ _ (omega arith) (omega arith) (omega arith) (omega arith) (omega arith) (omega arith) (omega arith) (omega arith)
low_bytes w (suc zero) l = eight _ _ _ _ _ _ _ _ _ _ _ _ _ _ _ _ (omega arith) (omega arith) (omega arith) (omega arith) (omega arith) (omega arith) (omega arith) (omega arith)
low_bytes w (suc (suc zero)) l = eight _ _ _ _ _ _ _ _ _ _ _ _ _ _ _ _ (omega arith) (omega arith) (omega arith) (omega arith) (omega arith) (omega arith) (omega arith) (omega arith)
low_bytes w (suc (suc (suc zero))) l = eight _ _ _ _ _ _ _ _ _ _ _ _ _ _ _ _ (omega arith) (omega arith) (omega arith) (omega arith) (omega arith) (omega arith) (omega arith) (omega arith)
low_bytes w (suc (suc (suc (suc zero)))) l = eight _ _ _ _ _ _ _ _ _ _ _ _ _ _ _ _ (omega arith) (omega arith) (omega arith) (omega arith) (omega arith) (omega arith) (omega arith) (omega arith)
low_bytes w (suc (suc (suc (suc (suc zero))))) l = eight _ _ _ _ _ _ _ _ _ _ _ _ _ _ _ _ (omega arith) (omega arith) (omega arith) (omega arith) (omega arith) (omega arith) (omega arith) (omega arith)
low_bytes w (suc (suc (suc (suc (suc (suc zero)))))) l = eight _ _ _ _ _ _ _ _ _ _ _ _ _ _ _ _ (omega arith) (omega arith) (omega arith) (omega arith) (omega arith) (omega arith) (omega arith) (omega arith)
low_bytes w (suc (suc (suc (suc (suc (suc (suc zero))))))) l = eight _ _ _ _ _ _ _ _ _ _ _ _ _ _ _ _ (omega arith) (omega arith) (omega arith) (omega arith) (omega arith) (omega arith) (omega arith) (omega arith)
low_bytes w (suc (suc (suc (suc (suc (suc (suc (suc c)))))))) l = absurd (omega arith)

-- a last word as bytes, also where there is none
eqb_zero : (w : ℕ) → eqb w 0 ≡ true → w ≡ 0
eqb_zero w e = grind (arith, nat_tests)

below_eight : (e : ℕ) → ltb e 8 ≡ true → e < 8
below_eight e t = grind (arith, nat_tests)

from_eight : (e : ℕ) → ltb e 8 ≡ false → 8 ≤ e
from_eight e t = grind (arith, nat_tests)

last_none : (w n : ℕ) → 8 ≤ n → w ≡ 0 → replicate (n - 8 * 0) 0 ≡ word_bytes w ++ replicate (n - 8) 0
unfolding word_bytes
last_none w n l e =
    let zeros : 8 + (n - 8) ≡ n - 8 * 0 = omega arith in
    sym (ap (λ (v : ℕ). word_bytes v ++ replicate (n - 8) 0) e ∙ replicate-append-replicate 8 (n - 8) 0 ∙ ap (λ (k : ℕ). replicate k 0) zeros)

last_filled : (w n : ℕ) → 8 ≤ n → bytes_of (last_word w) ++ replicate (n - 8 * length (last_word w)) 0 ≡ word_bytes w ++ replicate (n - 8) 0
last_filled w n l = by (eqb w 0) refl
  where
    by : (b : Bool) → eqb w 0 ≡ b → bytes_of (cond b [] (w ∷ [])) ++ replicate (n - 8 * length (cond b [] (w ∷ []))) 0 ≡ word_bytes w ++ replicate (n - 8) 0
    by true e = last_none w n l (eqb_zero w e)
    by false e = ap (λ (bs : List ℕ). bs ++ replicate (n - 8) 0) (append-nil (word_bytes w))

-- the field that a text's words stand for
abbrev filled : ℕ → List ℕ → List ℕ
filled n words = bytes_of words ++ replicate (n - 8 * length words) 0

filled-first : (n w : ℕ) (ws : List ℕ) → filled (8 + n) (w ∷ ws) ≡ word_bytes w ++ filled n ws
filled-first n w ws =
    let left : 8 + n - 8 * length (w ∷ ws) ≡ n - 8 * length ws = omega arith in
    append_assoc (word_bytes w) (bytes_of ws) (replicate (8 + n - 8 * length (w ∷ ws)) 0)
    ∙ ap (λ (k : ℕ). word_bytes w ++ (bytes_of ws ++ replicate k 0)) left

pub small-take : (n : ℕ) (xs : List ℕ) → ((i : ℕ) → get_or xs i 0 < 256) → (i : ℕ) → get_or (take n xs) i 0 < 256
small-take zero xs small i = omega arith
small-take (suc n) [] small i = omega arith
small-take (suc n) (x ∷ xs) small zero = small 0
small-take (suc n) (x ∷ xs) small (suc i) = small-take n xs (λ j. small (suc j)) i

-- one step: the words of the first eight bytes, and then those of the rest
step : (k w e : ℕ) (first rest ws : List ℕ) → length first ≡ 8 → length rest ≡ 8 * k → word_bytes w ≡ first → end_of first ≡ e → filled (8 * k) ws ≡ kept rest
    → filled (8 + 8 * k) (cond (ltb e 8) (last_word (w % 256 ^ e)) (w ∷ ws)) ≡ kept (first ++ rest)
step k w e first rest ws first_len rest_len is at more = by (ltb e 8) refl
  where
    by : (b : Bool) → ltb e 8 ≡ b → filled (8 + 8 * k) (cond b (last_word (w % 256 ^ e)) (w ∷ ws)) ≡ kept (first ++ rest)
    by true t =
        let within : e < 8 = below_eight e t in
        let a : 8 + 8 * k - 8 ≡ 8 * k = omega arith in
        let b : 8 - e + 8 * k ≡ length first + length rest - e = omega arith in
        last_filled (w % 256 ^ e) (8 + 8 * k) (omega arith)
        ∙ (λ i. low_bytes w e within i ++ replicate (a i) 0)
        ∙ append_assoc (take e (word_bytes w)) (replicate (8 - e) 0) (replicate (8 * k) 0)
        ∙ (λ i. take e (is i) ++ replicate-append-replicate (8 - e) (8 * k) 0 i)
        ∙ ap (λ (n : ℕ). take e first ++ replicate n 0) b
        ∙ sym (text_cut first rest e at (omega arith))
    by false t =
        let far : 8 ≤ e = from_eight e t in
        let within : end_of first ≤ length first = prefix_len-le-length _ first in
        let whole : end_of first ≡ length first = omega arith in
        filled-first (8 * k) w ws ∙ (λ i. is i ++ more i) ∙ sym (text_front first rest whole)

text_by_words : (k : ℕ) (field : List ℕ) → length field ≡ 8 * k → ((i : ℕ) → get_or field i 0 < 256) → filled (8 * k) (text_words (map word_of (first_chunks 8 k field))) ≡ kept field
unfolding text_of nul_at
text_by_words zero [] l small = refl
text_by_words zero (b ∷ bs) l small = absurd (omega arith)
text_by_words (suc k) field l small =
    let first_len : length (take 8 field) ≡ 8 = length-take-le 8 field (omega arith) in
    let rest_len : length (drop 8 field) ≡ 8 * k = omega (arith, length-drop 8 field) in
    let size : 8 * suc k ≡ 8 + 8 * k = omega arith in
    let ws = text_words (map word_of (first_chunks 8 k (drop 8 field))) in
    let is : word_bytes (word_of (take 8 field)) ≡ take 8 field = bytes_word (take 8 field) first_len (small-take 8 field small) in
    ap (λ (n : ℕ). filled n (text_words (map word_of (first_chunks 8 (suc k) field)))) size
    ∙ step k (word_of (take 8 field)) (nul_at (word_of (take 8 field))) (take 8 field) (drop 8 field) ws first_len rest_len is (ap end_of (sym is))
    (text_by_words k (drop 8 field) rest_len (λ i. subst (λ (b : ℕ). b < 256) (sym (get_or-drop 8 field i 0)) (small (8 + i))))
    ∙ ap kept (take-append-drop 8 field)

-- the words of a text stand for the text of its field
text_words_field : (n : ℕ) (field : List ℕ) → length field ≡ 8 * n → ((i : ℕ) → get_or field i 0 < 256) → field_of (8 * n) (text_words (field_words field)) ≡ kept field
unfolding field_of
text_words_field n field l small =
    let count : length field / 8 ≡ n = omega arith in
    ap (λ (k : ℕ). field_of (8 * n) (text_words (map word_of (first_chunks 8 k field)))) count
    ∙ ap (λ (k : ℕ). bytes_of (text_words (map word_of (first_chunks 8 n field))) ++ replicate (8 * n - k) 0) (length-bytes_of (text_words (map word_of (first_chunks 8 n field))))
    ∙ text_by_words n field l small

pub text_words_whole : (field : List ℕ) → length field % 8 ≡ 0 → ((i : ℕ) → get_or field i 0 < 256) → field_of (length field) (text_words (field_words field)) ≡ text_of (length field) field
text_words_whole field whole small =
    let n : length field ≡ 8 * (length field / 8) = omega arith in
    ap (λ (k : ℕ). field_of k (text_words (field_words field))) n ∙ text_words_field (length field / 8) field n small

-- how many words a text has
text_words-few : (ws : List ℕ) → length (text_words ws) ≤ length ws
text_words-few [] = omega arith
text_words-few (w ∷ ws) = by (ltb (nul_at w) 8) (text_words-few ws)
  where
    one : (v : ℕ) (b : Bool) → length (cond b [] (v ∷ [])) ≤ 1
    one v true = omega arith
    one v false = omega arith

    by : (b : Bool) → length (text_words ws) ≤ length ws → length (cond b (last_word (w % 256 ^ nul_at w)) (w ∷ text_words ws)) ≤ length (w ∷ ws)
    by true few = omega (arith, one (w % 256 ^ nul_at w) (eqb (w % 256 ^ nul_at w) 0))
    by false few = omega arith

length-first_chunks : (n k : ℕ) (xs : List ℕ) → length (first_chunks n k xs) ≡ k
length-first_chunks n zero xs = refl
length-first_chunks n (suc k) xs = ap (λ (j : ℕ). suc j) (length-first_chunks n k (drop n xs))

pub field_words-few : (field : List ℕ) → length (text_words (field_words field)) ≤ length field / 8
field_words-few field =
    omega (arith, text_words-few (field_words field), length-map (first_chunks 8 (length field / 8) field) word_of, length-first_chunks 8 (length field / 8) field)
