-- A sum of the seconds on a day is of the sessions in whatever order, also where the offset came as a number of 32 bits.
use Rattle.std.proofs.Common.{◌≡◌, ◌∙◌, ℕ, ℤ, List, FitsSigned, ap, to_z, of_z, w32}
use Rattle.std.proofs.lemmas.Int.{to_z-of_z}
use Rattle.tally_clock.specs.Days.{seconds_on}
use Rattle.tally_clock.specs.Rows.{ClockRows}
use Rattle.tally_sessions.specs.Days.{local}
use Rattle.tally_sessions.specs.Sums.{seconds_of_day}
use Rattle.tally_sessions.specs.declared.sums.Session.{Session}
use Rattle.tally_sessions.specs.inside.Alike.{AreAlike}

pub alike_on_day : (n : ℕ) (clock : ClockRows) (offset day : ℤ) (xs ys : List Session) → n ≡ seconds_of_day (local clock (to_z w32 (of_z w32 offset))) day xs → AreAlike xs ys → FitsSigned w32 offset
    → n ≡ seconds_of_day (local clock offset) day ys
alike_on_day n clock offset day xs ys is alike fits =
    is ∙ ap (λ (z : ℤ). seconds_of_day (local clock z) day xs) (to_z-of_z w32 offset fits) ∙ alike (λ (s : Session). seconds_on (local clock offset) day s.begin s.end_time)
