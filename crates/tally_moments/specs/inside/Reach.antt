-- The search for the second at which a clock reaches a local time.
use Rattle.std.specs.Prelude.{ℕ, ℤ, pos, ◌+ℤ◌, ◌-ℤ◌, ◌*ℤ◌, ◌-◌, ◌<◌, ◌<ℤ◌, ◌==◌, if◌then◌else◌}
use Rattle.std.specs.Int.{int_max}
use Rattle.tally_clock.specs.Rows.{ClockRows, count_at, offset_after, row_at}
use Rattle.tally_moments.specs.Seconds.{local}

-- how far local time is ahead of UTC after so many rows
abbrev pub ahead_after : ClockRows → ℤ → ℕ → ℤ
ahead_after clock minutes count = (offset_after clock.first clock.rows count).seconds +ℤ pos 60 *ℤ minutes

-- the second from which the offset after so many rows would show a local time or a later one, but not before that offset holds
abbrev pub reach_in : ClockRows → ℤ → ℤ → ℕ → ℤ
reach_in clock minutes wanted count =
    let reached = wanted -ℤ ahead_after clock minutes count in
    if count == 0 then reached else int_max reached (row_at clock.rows (count - 1)).from

-- no second has reached a local time before so many rows have begun
abbrev pub IsNotReached : ClockRows → ℤ → ℤ → ℕ → Type 0
IsNotReached clock minutes wanted count = (t : ℤ) → count_at clock.rows t < count → (t +ℤ local clock minutes t) <ℤ wanted
