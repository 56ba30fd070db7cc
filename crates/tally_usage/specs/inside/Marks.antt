-- Numbers that few commands share, by which a guess at a command's group is looked up.
use Rattle.std.specs.Prelude.{ℕ, ◌*◌, ◌/◌, ◌%◌, ◌^◌, Bool, List, drop, take, if◌then◌else◌}
use Rattle.std.specs.Int.{w64, from_le_bytes, rotate_left}
use Rattle.std.specs.Int.Bits.{bit_xor}

-- the word in the eight bytes of a name from a place on
abbrev pub word_at : List ℕ → ℕ → ℕ
word_at name at = from_le_bytes w64 (take 8 (drop at name))

-- both halves of a word's product with an odd number, folded together
abbrev pub folded : ℕ → ℕ
folded word = bit_xor (word * 0x9E3779B97F4A7C15 / 2 ^ 64) (word * 0x9E3779B97F4A7C15 % 2 ^ 64)

-- the number of a command, by the first 16 bytes of its name and its fork mark
unfoldable pub mark_of : List ℕ → Bool → ℕ
mark_of name forked = bit_xor (folded (bit_xor (word_at name 0) (rotate_left w64 (word_at name 8) 32))) (if forked then 1 else 0)
