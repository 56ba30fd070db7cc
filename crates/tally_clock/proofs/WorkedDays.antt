-- Worked clocks and days, computed by the definitions.
use Rattle.std.proofs.Common.{◌≡◌, zero, suc, List, [], ◌∷◌, map, ℤ, pos, negsuc, neg_ℤ, ◌≤ℤ◌, ◌<ℤ◌, refl, arith}
use Rattle.std.proofs.lemmas.Int.{ints}
use Rattle.tally_clock.specs.Days.{day_of, day_start, days_of_seconds, second_on, seconds_between, seconds_from, seconds_on}
use Rattle.tally_clock.specs.Rows.{ClockRows, IsBefore, IsRising, count_at, offset_at, row_at, utc}
use Rattle.tally_clock.specs.Time.{IsTime}
use Rattle.tally_clock.specs.Zones.{ChangesAt}
use Rattle.tally_clock.specs.declared.row.Row.{Row}

-- a row of a clock
abbrev row : (from seconds : ℤ) → neg_ℤ (pos 93599) ≤ℤ seconds → seconds ≤ℤ pos 93599 → Row
row from seconds low high = record { from = from; offset = record { seconds = seconds; in_range = (low, high) } }

-- an hour east of UTC from the second 100 on, and two hours west from 200 on
abbrev rows : List Row
rows = row (pos 100) (pos 3600) (omega (arith, ints)) (omega (arith, ints)) ∷ row (pos 200) (neg_ℤ (pos 7200)) (omega (arith, ints)) (omega (arith, ints)) ∷ []

abbrev clock : ClockRows
clock = record { first = (row (pos 0) (pos 60) (omega (arith, ints)) (omega (arith, ints))).offset; rows = rows }

-- a row has begun at its own second
begun : map (count_at rows) (negsuc 0 ∷ pos 99 ∷ pos 100 ∷ pos 199 ∷ pos 200 ∷ []) ≡ 0 ∷ 0 ∷ 1 ∷ 1 ∷ 2 ∷ []
begun = refl

-- rows count from 0, and the row past the last is one of UTC
row_seconds : map (λ place. (row_at rows place).offset.seconds) (0 ∷ 1 ∷ 2 ∷ []) ≡ pos 3600 ∷ neg_ℤ (pos 7200) ∷ pos 0 ∷ []
row_seconds = refl

-- a row's offset holds from its second up to the next row, the first offset before all rows, and the last row's from it on
offsets : map (offset_at clock) (neg_ℤ (pos 2147483648) ∷ pos 99 ∷ pos 100 ∷ pos 199 ∷ pos 200 ∷ pos 2147483647 ∷ []) ≡ pos 60 ∷ pos 60 ∷ pos 3600 ∷ pos 3600 ∷ neg_ℤ (pos 7200) ∷ neg_ℤ (pos 7200) ∷ []
offsets = refl

-- rows rise, and two of one second do not
rising : IsRising rows
rising zero h = omega (arith, ints)
rising (suc i) h = absurd (omega arith)

not_rising : IsRising (row (pos 100) (pos 0) (omega (arith, ints)) (omega (arith, ints)) ∷ row (pos 100) (pos 60) (omega (arith, ints)) (omega (arith, ints)) ∷ []) → ⊥
not_rising r = let same : pos 100 <ℤ pos 100 = r 0 (omega arith) in omega (arith, ints, same)

-- the last row is not before its own second
not_before : IsBefore rows (pos 200) → ⊥
not_before b = let same : pos 200 <ℤ pos 200 = b 1 (omega arith) in omega (arith, ints, same)

-- UTC is never ahead of itself
of_utc : map (offset_at utc) (neg_ℤ (pos 2147483648) ∷ pos 0 ∷ pos 2147483647 ∷ []) ≡ pos 0 ∷ pos 0 ∷ pos 0 ∷ []
of_utc = refl

-- a clock that stays at one offset
abbrev at : ℤ → ℤ → ℤ
at offset time = offset

-- day 0 has the 86,400 seconds from 0 on, and day -1 those before it
days : map (day_of (at (pos 0))) (pos 0 ∷ pos 86399 ∷ pos 86400 ∷ neg_ℤ (pos 1) ∷ neg_ℤ (pos 86400) ∷ neg_ℤ (pos 86401) ∷ []) ≡ pos 0 ∷ pos 0 ∷ pos 1 ∷ neg_ℤ (pos 1) ∷ neg_ℤ (pos 1) ∷ neg_ℤ (pos 2) ∷ []
days = refl

-- the days of the least time and the greatest, at 1,439 minutes to the west and to the east
farthest : day_of (at (neg_ℤ (pos 86340))) (neg_ℤ (pos 2147483648)) ∷ day_of (at (pos 86340)) (pos 2147483647) ∷ [] ≡ neg_ℤ (pos 24857) ∷ pos 24856 ∷ []
farthest = refl

-- an hour east a day begins an hour earlier, and an hour west an hour later
shifted_days : map (day_of (at (pos 3600))) (pos 82799 ∷ pos 82800 ∷ []) ∷ map (day_of (at (neg_ℤ (pos 3600)))) (pos 3599 ∷ pos 3600 ∷ []) ∷ [] ≡ (pos 0 ∷ pos 1 ∷ []) ∷ (neg_ℤ (pos 1) ∷ pos 0 ∷ []) ∷ []
shifted_days = refl

-- a clock that changes has the day of its offset at that very second
changing_days : map (day_of (offset_at clock)) (pos 100 ∷ pos 199 ∷ pos 200 ∷ pos 7199 ∷ pos 7200 ∷ []) ≡ pos 0 ∷ pos 0 ∷ neg_ℤ (pos 1) ∷ neg_ℤ (pos 1) ∷ pos 0 ∷ []
changing_days = refl

-- a second counts once, on its day alone
counted : map (λ day. second_on (at (pos 0)) day (pos 86400)) (pos 0 ∷ pos 1 ∷ pos 2 ∷ []) ≡ 0 ∷ 1 ∷ 0 ∷ []
counted = refl

-- how long it is from one time to another: no time where it goes back
lengths : seconds_between (pos 1000000) (pos 1003600) ∷ seconds_between (neg_ℤ (pos 10)) (pos 5) ∷ seconds_between (pos 5) (pos 5) ∷ seconds_between (pos 2000) (pos 1000) ∷ seconds_between (neg_ℤ (pos 2147483648)) (pos 2147483647) ∷ []
    ≡ 3600 ∷ 15 ∷ 0 ∷ 0 ∷ 4294967295 ∷ []
lengths = refl

-- of five seconds from two before midnight on, two are of the day before and three of the day after
around_midnight : map (λ day. seconds_from (at (pos 0)) day (pos 86398) 5) (pos 0 ∷ pos 1 ∷ pos 2 ∷ []) ≡ 2 ∷ 3 ∷ 0 ∷ []
unfolding seconds_from
around_midnight = refl

-- a stay has its first second and not its end, and one that goes back has no second
stay_seconds : map (λ day. seconds_on (at (pos 0)) day (pos 86398) (pos 86401)) (pos 0 ∷ pos 1 ∷ []) ∷ map (λ day. seconds_on (at (pos 0)) day (pos 86398) (pos 86400)) (pos 0 ∷ pos 1 ∷ []) ∷ map (λ day. seconds_on (at (pos 0)) day (pos 86401) (pos 86398)) (pos 0 ∷ pos 1 ∷ []) ∷ []
    ≡ (2 ∷ 1 ∷ []) ∷ (2 ∷ 0 ∷ []) ∷ (0 ∷ 0 ∷ []) ∷ []
unfolding seconds_from
stay_seconds = refl

-- the days of its seconds, one for each
days_of_stays : days_of_seconds (at (pos 0)) (pos 86398) (pos 86401) ∷ days_of_seconds (at (pos 60)) (pos 86338) (pos 86341) ∷ days_of_seconds (at (pos 0)) (pos 86401) (pos 86398) ∷ [] ≡ (pos 0 ∷ pos 0 ∷ pos 1 ∷ []) ∷ (pos 0 ∷ pos 0 ∷ pos 1 ∷ []) ∷ [] ∷ []
days_of_stays = refl

-- when days begin: in UTC, an hour east of it and an hour west
starts : map (day_start (pos 0)) (pos 0 ∷ pos 1 ∷ neg_ℤ (pos 1) ∷ []) ∷ map (day_start (pos 3600)) (pos 0 ∷ pos 1 ∷ []) ∷ map (day_start (neg_ℤ (pos 3600))) (pos 0 ∷ pos 1 ∷ []) ∷ []
    ≡ (pos 0 ∷ pos 86400 ∷ neg_ℤ (pos 86400) ∷ []) ∷ (neg_ℤ (pos 3600) ∷ pos 82800 ∷ []) ∷ (pos 3600 ∷ pos 90000 ∷ []) ∷ []
starts = refl

-- records have 32 bits for a time: the least and the greatest, and none beyond them
least_time : IsTime (neg_ℤ (pos 2147483648))
least_time = record { low = omega (arith, ints); high = omega (arith, ints) }

greatest_time : IsTime (pos 2147483647)
greatest_time = record { low = omega (arith, ints); high = omega (arith, ints) }

no_earlier : IsTime (neg_ℤ (pos 2147483649)) → ⊥
no_earlier t = let low = t.low in omega (arith, ints)

no_later : IsTime (pos 2147483648) → ⊥
no_later t = let high = t.high in omega (arith, ints)

-- UTC never changes, and no clock changes at the least time, before which no record has one
no_change : ChangesAt (offset_at utc) (pos 5) → ⊥
no_change c = c.other refl

no_first_change : ChangesAt (offset_at clock) (neg_ℤ (pos 2147483648)) → ⊥
no_first_change c = let low = c.from.low in omega (arith, ints)
