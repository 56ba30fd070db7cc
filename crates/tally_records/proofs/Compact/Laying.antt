-- The bytes of words, laid over a field.
use Rattle.std.proofs.Common.{◌≡◌, ℕ, ◌+◌, ◌-◌, ◌*◌, ◌<◌, List, [], ◌∷◌, ◌++◌, length, take, drop, get_or, replicate, length-append, append_assoc, refl, sym, ap, ◌∙◌, arith}
use Rattle.std.proofs.lemmas.Grind.{flat_map-append}
use Rattle.std.proofs.lemmas.List.{append-nil, drop-drop, drop-replicate, drop_at, length-take-le, take_at, take_more}
use borrow.Rule.Slice.PartMut.{put_mid}
use Rattle.tally_records.specs.inside.Compact.Layout.{bytes_of, field_of, word_bytes}

pub length-word_bytes : (word : ℕ) → length (word_bytes word) ≡ 8
unfolding word_bytes
length-word_bytes word = refl

pub length-bytes_of : (words : List ℕ) → length (bytes_of words) ≡ 8 * length words
length-bytes_of [] = refl
length-bytes_of (w ∷ ws) = omega (arith, length-append (word_bytes w) (bytes_of ws), length-word_bytes w, length-bytes_of ws)

put_behind : (xs ys zs : List ℕ) (a k : ℕ) → length xs ≡ a → put_mid a k (xs ++ zs) ys ≡ xs ++ (ys ++ drop k zs)
put_behind xs ys zs a k e = λ i. take_at xs zs a e i ++ (ys ++ drop k (drop_at xs zs a e i))

pub bytes_of-more : (words : List ℕ) (k : ℕ) → k < length words → bytes_of (take (k + 1) words) ≡ bytes_of (take k words) ++ word_bytes (get_or words k 0)
bytes_of-more words k l =
    ap bytes_of (take_more words k 0 l) ∙ flat_map-append word_bytes (take k words) (get_or words k 0 ∷ [])
    ∙ ap (λ (bs : List ℕ). bytes_of (take k words) ++ bs) (append-nil (word_bytes (get_or words k 0)))

-- one more word is laid
pub laid_more : (words old field new : List ℕ) (k : ℕ) → k < length words → field ≡ bytes_of (take k words) ++ drop (8 * k) old → new ≡ word_bytes (get_or words k 0)
    → put_mid (8 * k) (8 * k + 8 - 8 * k) field new ≡ bytes_of (take (k + 1) words) ++ drop (8 * (k + 1)) old
laid_more words old field new k l e f =
    let at : length (bytes_of (take k words)) ≡ 8 * k = omega (arith, length-bytes_of (take k words), length-take-le k words (omega arith)) in
    let width : 8 * k + 8 - 8 * k ≡ 8 = omega arith in
    let next : 8 * k + 8 ≡ 8 * (k + 1) = omega arith in
    (λ i. put_mid (8 * k) (width i) (e i) (f i))
    ∙ put_behind (bytes_of (take k words)) (word_bytes (get_or words k 0)) (drop (8 * k) old) (8 * k) 8 at
    ∙ sym (append_assoc (bytes_of (take k words)) (word_bytes (get_or words k 0)) (drop 8 (drop (8 * k) old)))
    ∙ (λ i. sym (bytes_of-more words k l) i ++ drop-drop 8 (8 * k) old i)
    ∙ ap (λ (n : ℕ). bytes_of (take (k + 1) words) ++ drop n old) next

-- laid over zeros
pub laid_zeros : (n : ℕ) (words : List ℕ) → bytes_of words ++ drop (8 * length words) (replicate n 0) ≡ field_of n words
unfolding field_of
laid_zeros n words =
    ap (λ (zs : List ℕ). bytes_of words ++ zs) (drop-replicate (8 * length words) n 0)
    ∙ ap (λ (k : ℕ). bytes_of words ++ replicate (n - k) 0) (sym (length-bytes_of words))
