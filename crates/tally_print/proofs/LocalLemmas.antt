-- Local time, and the rows of a clock that have begun at a second, by a guess.
use Rattle.std.proofs.Common.{◌≡◌, ◌∙◌, ℕ, ◌-◌, ◌<◌, ◌≤◌, ℤ, pos, neg_ℤ, ◌+ℤ◌, ◌*ℤ◌, ◌≤ℤ◌, ◌<ℤ◌, List, length, ap, arith, w32, to_z, of_z}
use Rattle.std.proofs.lemmas.Int.{ints}
use Rattle.jiff_core.proofs.SignedLemmas.{signed_arith}
use Rattle.tally_clock.specs.declared.row.Row.{Row}
use Rattle.tally_clock.specs.Rows.{IsRising, count_at, row_at}
use Rattle.tally_clock.proofs.RowLemmas.{count_is, rises}
use Rattle.tally_sessions.specs.Days.{IsOffset}

abbrev held : ℤ → ℤ
held z = to_z w32 (of_z w32 z)

in_seconds : (seconds offset : ℤ) → neg_ℤ (pos 93599) ≤ℤ seconds → seconds ≤ℤ pos 93599 → IsOffset offset → held (held seconds +ℤ held (pos 60 *ℤ held offset)) ≡ seconds +ℤ pos 60 *ℤ offset
in_seconds seconds offset low high h =
    let least = h.low in
    let most = h.high in
    omega (arith, ints)

-- how far local time is ahead where a clock's zone is
pub ahead_is : (seconds offset zone : ℤ) → seconds ≡ zone → neg_ℤ (pos 93599) ≤ℤ seconds → seconds ≤ℤ pos 93599 → IsOffset offset
    → held (held seconds +ℤ held (pos 60 *ℤ held offset)) ≡ zone +ℤ pos 60 *ℤ offset
ahead_is seconds offset zone same low high h = in_seconds seconds offset low high h ∙ ap (λ (z : ℤ). z +ℤ pos 60 *ℤ offset) same

-- so many have begun where the last of them has, and the next has not
pub count_by_ends : (rows : List Row) (time : ℤ) (k : ℕ) → IsRising rows → k ≤ length rows → (0 < k → (row_at rows (k - 1)).from ≤ℤ time) → (k < length rows → time <ℤ (row_at rows k).from) → count_at rows time ≡ k
count_by_ends rows time k up within begun over =
    count_is rows time k within
    (λ i below.
    let first = rises rows up i (k - 1) (omega arith) (omega arith) in
    let last = begun (omega arith) in
    omega (arith, signed_arith))
    over
