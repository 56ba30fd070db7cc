-- Texts, and fields that hold them.
use Rattle.std.specs.Prelude.{ℕ, Bool, List, Option, length, drop, position, unwrap_or, nat_le, ◌==◌, ◌&&◌, ◌||◌}
use Rattle.std.specs.List.{list_all}

-- zeros alone
abbrev pub are_zeros : List ℕ → Bool
are_zeros bytes = list_all (λ b. b == 0) bytes

-- where a field has its first zero
abbrev pub first_zero : List ℕ → Option ℕ
first_zero field = position (λ b. b == 0) field

-- a field holds a text: from its first zero on there are zeros alone
abbrev pub is_padded : List ℕ → Bool
is_padded field = are_zeros (drop (unwrap_or (first_zero field) (length field)) field)

-- a byte of texts: what ASCII prints, a tab, an end of line, and what is not ASCII
abbrev pub is_text_byte : ℕ → Bool
is_text_byte byte = (byte == 9) || ((byte == 10) || ((byte == 13) || ((nat_le 32 byte && nat_le byte 126) || nat_le 128 byte)))
