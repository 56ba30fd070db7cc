-- The second of a moment on a clock.
use Rattle.std.specs.Prelude.{◌≡◌, ℤ, pos, ◌+ℤ◌, ◌-ℤ◌, ◌*ℤ◌, ◌≤ℤ◌, ◌<ℤ◌, int_lt, if◌then◌else◌}
use Rattle.tally_clock.specs.Rows.{ClockRows, offset_at}
use Rattle.tally_moments.specs.declared.moment.Moment.{Moment}
use Rattle.tally_moments.specs.declared.moment.Moment.TheVariants.{Day, Now, Second, Time}

-- how far local time is ahead of UTC at a second, in seconds: a clock with minutes east of it on top
abbrev pub local : ClockRows → ℤ → ℤ → ℤ
local clock minutes time = offset_at clock time +ℤ pos 60 *ℤ minutes

-- the first second at which a clock shows a local time or a later one
pub record IsFirstAt (clock : ℤ → ℤ) (wanted time : ℤ) : Type 0 where
  pub reached : wanted ≤ℤ (time +ℤ clock time)
  pub none_before : (t : ℤ) → t <ℤ time → (t +ℤ clock t) <ℤ wanted

-- the second at which a clock shows a local time, by the first at which it shows this or a later one: where it
-- shows a later one it leaves the time out, which is counted by the offset of the second before
abbrev pub shown_at : (ℤ → ℤ) → ℤ → ℤ → ℤ
shown_at clock wanted first = if int_lt wanted (first +ℤ clock first) then wanted -ℤ clock (first -ℤ pos 1) else first

-- the second at which a clock shows a local time
abbrev pub IsShownAt : (ℤ → ℤ) → ℤ → ℤ → Type 0
IsShownAt clock wanted time = (first : ℤ) × IsFirstAt clock wanted first × (time ≡ shown_at clock wanted first)

-- the second of a moment, on a clock and at a second that is now
abbrev pub IsSecondOf : (ℤ → ℤ) → ℤ → Moment → ℤ → Type 0
IsSecondOf clock now (Second second) time = time ≡ second
IsSecondOf clock now (Day day) time = IsFirstAt clock (pos 86400 *ℤ day) time
IsSecondOf clock now (Time day second) time = IsShownAt clock (pos 86400 *ℤ day +ℤ pos second) time
IsSecondOf clock now Now time = time ≡ now

-- no moment has two seconds
abbrev pub SecondsAgree : Type 0
SecondsAgree = (clock : ℤ → ℤ) (now : ℤ) (moment : Moment) (one other : ℤ) → IsSecondOf clock now moment one → IsSecondOf clock now moment other → one ≡ other
