-- The change of a cut session from a day to the next.
use Rattle.std.proofs.Common.{◌≡◌, ℕ, ◌+◌, ℤ, pos, ◌+ℤ◌, ◌-ℤ◌, List, Option, None, Some, ap, arith}
use Rattle.std.proofs.lemmas.Int.{ints}
use Rattle.tally_clock.specs.Days.{seconds_on}
use Rattle.tally_clock.specs.declared.row.Row.{Row}
use Rattle.tally_sessions.specs.declared.connect.cut.Rest.{Rest}
use Rattle.tally_sessions.specs.inside.Changes.{change_on}
use Rattle.tally_sessions.specs.inside.Counts.{change_since, seconds_since}
use Rattle.tally_sessions.specs.inside.Cuts.{rest_change}
use Rattle.tally_sessions.specs.inside.Spans.{span_change, span_on}

-- where it ends in the row where it begins
pub no_rest : (day : ℤ) (rest : Option Rest) → rest ≡ None → rest_change day rest ≡ pos 0
unfolding rest_change
no_rest day rest is = ap (rest_change day) is

-- and where it ends in a later one
pub one_rest : (day : ℤ) (rest : Option Rest) (r : Rest) → rest ≡ Some r → rest_change day rest ≡ span_change day r.last.begin r.last.end_time
unfolding rest_change
one_rest day rest r is = ap (rest_change day) is

-- of one span
pub one_change : (clock : ℤ → ℤ) (b e x y : ℤ) → ((day : ℤ) → seconds_on clock day b e ≡ span_on day x y) → (day : ℤ) → change_on clock day b e ≡ span_change day x y
one_change clock b e x y same day = λ i. pos (same day i) -ℤ pos (same (day -ℤ pos 1) i)

-- and of two, with whole rows between them
pub several_change : (clock : ℤ → ℤ) (rows : List Row) (b e x y z w : ℤ) (from to : ℕ)
    → ((day : ℤ) → seconds_on clock day b e + seconds_since clock rows day to ≡ span_on day x y + span_on day z w + seconds_since clock rows day from)
    → (day : ℤ) → change_on clock day b e +ℤ change_since clock rows day to ≡ (span_change day x y +ℤ span_change day z w) +ℤ change_since clock rows day from
several_change clock rows b e x y z w from to same day =
    let one = same day in
    let two = same (day -ℤ pos 1) in
    omega (arith, ints, one, two)
