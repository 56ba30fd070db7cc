-- The elapsed time of struct acct_v3 (linux/acct.h), ac_etime: a 32-bit float, given as its word, that counts ticks.
use Rattle.std.specs.Prelude.{ℕ, ◌+◌, ◌-◌, ◌*◌, ◌/◌, ◌%◌, ◌^◌, Bool, ◌||◌, ◌==◌, nat_le, nat_lt, if◌then◌else◌}

-- the sign bit, at the top of the word, is set
abbrev pub is_negative : ℕ → Bool
is_negative word = nat_le (2 ^ 31) word

-- the 8 bits of exponent below it
abbrev pub exponent_of : ℕ → ℕ
exponent_of word = word / 2 ^ 23 % 2 ^ 8

-- the low 23 bits with a one before them
abbrev pub significand_of : ℕ → ℕ
significand_of word = 2 ^ 23 + word % 2 ^ 23

-- the number `significand * 2 ^ (exponent - 150)`, rounded down
unfoldable pub rounded_down : ℕ → ℕ → ℕ
rounded_down significand exponent = significand * 2 ^ exponent / 2 ^ 150

-- the elapsed ticks of a word: 0 where it is negative or its exponent is 0, the greatest where it is no number below 2 ^ 64
unfoldable pub elapsed_of : ℕ → ℕ
elapsed_of word =
    if is_negative word || (exponent_of word == 0) then 0 else (
    if nat_lt 190 (exponent_of word) then 2 ^ 64 - 1 else rounded_down (significand_of word) (exponent_of word))
