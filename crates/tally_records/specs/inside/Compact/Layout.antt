-- How heads and words stand for login records.
use Rattle.std.specs.Prelude.{◌≡◌, ◌≤◌, ℕ, ◌+◌, List, [], ◌∷◌, All, length, map, take, drop}
use Rattle.std.specs.Int.{w64, to_le_bytes}
use Rattle.std.specs.List.{flat_map}
use Rattle.tally_records.specs.Text.{padded}
use Rattle.tally_records.specs.declared.login.LoginRecord.{LoginRecord}
use Rattle.tally_records.specs.declared.login.head.Head.{Head}

-- the bytes of a word, the lowest first
unfoldable pub word_bytes : ℕ → List ℕ
word_bytes word = to_le_bytes w64 word

-- the bytes of words
abbrev pub bytes_of : List ℕ → List ℕ
bytes_of words = flat_map word_bytes words

-- the field of n bytes that words stand for: their bytes, then zeros
unfoldable pub field_of : ℕ → List ℕ → List ℕ
field_of n words = padded n (bytes_of words)

-- so many words from a place on
abbrev pub part : ℕ → ℕ → List ℕ → List ℕ
part start count words = take count (drop start words)

-- how many words the texts of a record have
abbrev pub size : Head → ℕ
size h = h.line + h.user + h.remote

-- the record of a head
unfoldable pub record_at : List ℕ → Head → LoginRecord
record_at words h = record {
  kind = h.kind;
  line = field_of 32 (part h.start h.line words);
  user = field_of 32 (part (h.start + h.line) h.user words);
  remote = field_of 256 (part (h.start + h.line + h.user) h.remote words);
  time = h.time;
}

-- a head whose words stand further on
abbrev pub moved : ℕ → Head → Head
moved base h = record h { start = base + h.start }

-- no text has more words than its field
pub record IsHead (h : Head) : Type 0 where
  pub line : h.line ≤ 4
  pub user : h.user ≤ 4
  pub remote : h.remote ≤ 32

-- the words of the heads follow one another, without a gap
abbrev pub Tiles : ℕ → List Head → ℕ → Type 0
Tiles from [] end = from ≡ end
Tiles from (h ∷ hs) end = (h.start ≡ from) × Tiles (from + size h) hs end

-- the records of heads and words
abbrev pub records : List Head → List ℕ → List LoginRecord
records hs words = map (record_at words) hs

-- the heads cover the words
pub record Covers (hs : List Head) (words : List ℕ) : Type 0 where
  pub tiles : Tiles 0 hs (length words)
  pub heads : All IsHead hs
