-- How far local time is ahead.
use Rattle.std.proofs.Common.{◌≡◌, ◌∙◌, ℤ, pos, neg_ℤ, ◌+ℤ◌, ◌*ℤ◌, ◌≤ℤ◌, ap, arith, w32, to_z, of_z}
use Rattle.std.proofs.lemmas.Int.{ints}
use Rattle.tally_sessions.specs.Days.{IsOffset}

abbrev held : ℤ → ℤ
held z = to_z w32 (of_z w32 z)

in_seconds : (seconds offset : ℤ) → neg_ℤ (pos 93599) ≤ℤ seconds → seconds ≤ℤ pos 93599 → IsOffset offset → held (held seconds +ℤ held (pos 60 *ℤ held offset)) ≡ seconds +ℤ pos 60 *ℤ offset
in_seconds seconds offset low high h =
    let least = h.low in
    let most = h.high in
    omega (arith, ints)

pub ahead_is : (seconds offset zone : ℤ) → seconds ≡ zone → neg_ℤ (pos 93599) ≤ℤ seconds → seconds ≤ℤ pos 93599 → IsOffset offset
    → held (held seconds +ℤ held (pos 60 *ℤ held offset)) ≡ zone +ℤ pos 60 *ℤ offset
ahead_is seconds offset zone same low high h = in_seconds seconds offset low high h ∙ ap (λ (z : ℤ). z +ℤ pos 60 *ℤ offset) same
