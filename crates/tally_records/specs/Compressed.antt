-- The compressed numbers of acct(5), comp_t: a fraction in the low 13 bits, a base-8 exponent in the 3 bits above.
use Rattle.std.specs.Prelude.{ℕ, ◌*◌, ◌/◌, ◌%◌, ◌^◌}

-- the value of a comp_t
abbrev pub comp_of : ℕ → ℕ
comp_of c = (c % 8192) * 8 ^ (c / 8192)
