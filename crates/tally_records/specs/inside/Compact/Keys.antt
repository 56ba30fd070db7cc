-- A name by its four words.
use Rattle.std.proofs.Common.{◌≡◌, ℕ, suc, ◌*◌, ◌/◌, ◌<◌, List, [], ◌∷◌, ◌++◌, length, map, get_or, true, if◌then◌else◌, ◌==◌, length-append, refl, sym, ap, ◌∙◌, arith}
use Rattle.std.specs.Cmp.Lexicographic.{same_text}
use Rattle.std.specs.Hash as fed
use Rattle.std.specs.Str.{bytes_eq}
use Rattle.std.specs.Simd.{first_chunks}
use Rattle.std.proofs.lemmas.List.{drop_at, take_at}
use Rattle.std.proofs.lemmas.Nat.{from_le_bytes-to_le_bytes_8}
use Rattle.tally_records.specs.inside.Compact.Layout.{bytes_of, word_bytes}
use Rattle.tally_records.specs.Text.{field_words, word_of}

-- what the words of a key keep
pub record IsKey (words : List ℕ) : Type 0 where
  pub four : length words ≡ 4
  pub fits : (i : ℕ) → get_or words i 0 < 18446744073709551616

pub word_back : (w : ℕ) → w < 18446744073709551616 → word_of (word_bytes w) ≡ w
unfolding word_of word_bytes
word_back w fits = from_le_bytes-to_le_bytes_8 w fits

word_len : (w : ℕ) → length (word_bytes w) ≡ 8
unfolding word_bytes
word_len w = refl

bytes_len : (words : List ℕ) → length (bytes_of words) ≡ 8 * length words
bytes_len [] = refl
bytes_len (w ∷ ws) = omega (arith, length-append (word_bytes w) (bytes_of ws), word_len w, bytes_len ws)

chunks_back : (words : List ℕ) → ((i : ℕ) → get_or words i 0 < 18446744073709551616) → map word_of (first_chunks 8 (length words) (bytes_of words)) ≡ words
chunks_back [] fits = refl
chunks_back (w ∷ ws) fits =
    (λ i. word_of (take_at (word_bytes w) (bytes_of ws) 8 (word_len w) i) ∷ map word_of (first_chunks 8 (length ws) (drop_at (word_bytes w) (bytes_of ws) 8 (word_len w) i)))
    ∙ (λ i. word_back w (fits 0) i ∷ chunks_back ws (λ j. fits (suc j)) i)

-- the words come back from their bytes
pub words_back : (words : List ℕ) → ((i : ℕ) → get_or words i 0 < 18446744073709551616) → field_words (bytes_of words) ≡ words
words_back words fits =
    let count : length (bytes_of words) / 8 ≡ length words = omega (arith, bytes_len words) in
    ap (λ (k : ℕ). map word_of (first_chunks 8 k (bytes_of words))) count ∙ chunks_back words fits

-- a word of a name
abbrev pub word_in : List ℕ → ℕ → ℕ
word_in name i = get_or (field_words name) i 0

-- what hashes a name: its first word, and where the second is not 0 the other three
abbrev pub writes_of : List ℕ → fed.HashWrites
writes_of name =
    fed.u64 (word_in name 0) ++ (if word_in name 1 == 0 then [] else fed.u64 (word_in name 1) ++ (fed.u64 (word_in name 2) ++ fed.u64 (word_in name 3)))

-- the same name is hashed by the same writes
pub same_writes : (a b : List ℕ) → bytes_eq a b ≡ true → writes_of a ≡ writes_of b
same_writes a b h = λ i. writes_of (same_text a b (sym h) i)
