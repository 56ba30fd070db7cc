-- The words of a text.
use Rattle.std.specs.Prelude.{ℕ, ◌%◌, ◌^◌, List, [], ◌∷◌, nat_lt, ◌==◌, if◌then◌else◌}
use Rattle.std.specs.List.{position_or_len}
use Rattle.tally_records.specs.inside.Compact.Layout.{word_bytes}

-- how many bytes of a word stand before its first NUL
unfoldable pub nul_at : ℕ → ℕ
nul_at word = position_or_len (λ b. b == 0) (word_bytes word)

-- a last word, unless it has no byte
abbrev pub last_word : ℕ → List ℕ
last_word word = if word == 0 then [] else word ∷ []

-- the words of a text, from those of its field
abbrev pub text_words : List ℕ → List ℕ
text_words [] = []
text_words (w ∷ ws) = if nat_lt (nul_at w) 8 then last_word (w % 256 ^ nul_at w) else w ∷ text_words ws
