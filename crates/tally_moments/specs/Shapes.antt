-- Texts with digits at fixed places, and numbers.
use Rattle.std.specs.Prelude.{ℕ, ◌+◌, ◌-◌, ◌*◌, ◌^◌, ◌==◌, ◌&&◌, ◌||◌, Bool, List, [], ◌∷◌, Option, Some, None, length, nat_lt, not, slice_index, if◌then◌else◌}
use Rattle.std.specs.Char.{is_ascii_digit}
use Rattle.std.specs.List.{list_all, zip}
use Rattle.std.specs.Str.Parse.{digits_value, without_leading_plus}

-- a byte that may stand at a place of a picture: any digit where that has 0, and else the same byte
abbrev pub fits_place : ℕ → ℕ → Bool
fits_place place byte = if place == 48 then is_ascii_digit byte else byte == place

-- a text has the shape of a picture, as 2026-07-01 that of 0000-00-00
abbrev pub is_like : List ℕ → List ℕ → Bool
is_like picture text = (length picture == length text) && list_all (λ p. fits_place p.0 p.1) (zip picture text)

-- the digit at a place
abbrev pub digit_at : List ℕ → ℕ → ℕ
digit_at text at = slice_index text at - 48

-- the number that two digits write at a place
abbrev pub two_at : List ℕ → ℕ → ℕ
two_at text at = digit_at text at * 10 + digit_at text (at + 1)

-- the number that the first four digits write
abbrev pub first_four : List ℕ → ℕ
first_four text = two_at text 0 * 100 + two_at text 2

-- digits alone, one or more
abbrev pub is_digits : List ℕ → Bool
is_digits text = not (length text == 0) && list_all is_ascii_digit text

-- the number that digits write, where 63 bits hold it
abbrev pub number_of : List ℕ → Option ℕ
number_of text = if is_digits text && nat_lt (digits_value 10 text) (2 ^ 63) then Some (digits_value 10 text) else None

-- what follows a byte that a text begins with
abbrev pub after : ℕ → List ℕ → Option (List ℕ)
after byte [] = None
after byte (first ∷ rest) = if first == byte then Some rest else None

-- as many digits as a date has without signs, or a date and a time; a plus may stand before them
abbrev pub looks_like_date : List ℕ → Bool
looks_like_date word =
    let digits = without_leading_plus word in
    is_digits digits && ((length digits == 8) || (length digits == 14))
