-- A name by four words, each with its first byte as the highest.
use Rattle.std.proofs.Common.{◌≡◌, ℕ, ◌*◌, ◌<◌, List, ◌++◌, take, drop}
use Rattle.std.specs.Int.{w64, from_be_bytes, to_be_bytes}
use Rattle.std.proofs.lemmas.Nat.{from_be_bytes-to_be_bytes_8}

-- the bytes of a word
unfoldable pub word_bytes : ℕ → List ℕ
word_bytes word = to_be_bytes w64 word

-- the word of eight bytes
unfoldable pub word_of : List ℕ → ℕ
word_of bytes = from_be_bytes w64 bytes

-- the name of four words
abbrev pub name_of : ℕ → ℕ → ℕ → ℕ → List ℕ
name_of a b c d = word_bytes a ++ (word_bytes b ++ (word_bytes c ++ word_bytes d))

-- a word of a name
abbrev pub word_in : List ℕ → ℕ → ℕ
word_in name i = word_of (take 8 (drop (8 * i) name))

-- what the words of a key keep
pub record Fit (a b c d : ℕ) : Type 0 where
  pub first : a < 18446744073709551616
  pub second : b < 18446744073709551616
  pub third : c < 18446744073709551616
  pub fourth : d < 18446744073709551616

-- the words come back from their name
pub first_back : {a b c d : ℕ} → Fit a b c d → word_in (name_of a b c d) 0 ≡ a
unfolding word_bytes word_of
first_back {a} h = from_be_bytes-to_be_bytes_8 a h.first

pub second_back : {a b c d : ℕ} → Fit a b c d → word_in (name_of a b c d) 1 ≡ b
unfolding word_bytes word_of
second_back {b = b} h = from_be_bytes-to_be_bytes_8 b h.second

pub third_back : {a b c d : ℕ} → Fit a b c d → word_in (name_of a b c d) 2 ≡ c
unfolding word_bytes word_of
third_back {c = c} h = from_be_bytes-to_be_bytes_8 c h.third

pub fourth_back : {a b c d : ℕ} → Fit a b c d → word_in (name_of a b c d) 3 ≡ d
unfolding word_bytes word_of
fourth_back {d = d} h = from_be_bytes-to_be_bytes_8 d h.fourth
