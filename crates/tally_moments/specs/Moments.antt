-- Moments, as words say them.
use Rattle.std.specs.Prelude.{ℕ, ℤ, pos, neg_ℤ, ◌+◌, ◌*◌, ◌==◌, ◌&&◌, ◌||◌, ◌+ℤ◌, ◌-ℤ◌, ◌*ℤ◌, Bool, List, [], ◌∷◌, Option, Some, None, bytes_eq, codes, drop, nat_le, option_and_then, option_map, slice_index, take, if◌then◌else◌}
use Rattle.std.specs.Option.{option_or}
use Rattle.std.specs.Str.Parse.{without_leading_plus}
use Rattle.tally_moments.specs.Dates.{day_named, days_named}
use Rattle.tally_moments.specs.Shapes.{after, is_like, looks_like_date, number_of, two_at}
use Rattle.tally_moments.specs.declared.moment.Moment.{Moment}
use Rattle.tally_moments.specs.declared.moment.Moment.TheVariants.{Day, Now, Second, Time}
use Rattle.tally_moments.specs.declared.time.ToldBy.{ToldBy}
use Rattle.tally_moments.specs.declared.time.ToldBy.TheVariants.{Clock, East}

-- the seconds from midnight to a time of day
abbrev pub seconds_of : ℕ → ℕ → ℕ → Option ℕ
seconds_of hours minutes seconds =
    if nat_le hours 23 && nat_le minutes 59 && nat_le seconds 59 then Some (hours * 3600 + minutes * 60 + seconds) else None

-- the time of day that a text begins with, as 10:30:00 or 10:30, and what follows it
abbrev pub time_in : List ℕ → Option (ℕ × List ℕ)
time_in text =
    if is_like (codes "00:00:00") (take 8 text) then option_map (λ s. (s, drop 8 text)) (seconds_of (two_at text 0) (two_at text 3) (two_at text 6))
    else (if is_like (codes "00:00") (take 5 text) then option_map (λ s. (s, drop 5 text)) (seconds_of (two_at text 0) (two_at text 3) 0)
    else None)

-- the seconds of an offset after its sign, as 02:00 or 0200
abbrev pub ahead_in : List ℕ → Option ℕ
ahead_in text =
    if is_like (codes "00:00") text then seconds_of (two_at text 0) (two_at text 3) 0
    else (if is_like (codes "0000") text then seconds_of (two_at text 0) (two_at text 2) 0
    else None)

-- an offset with its sign
abbrev pub signed_in : ℕ → List ℕ → Option ToldBy
signed_in sign text =
    if sign == 43 then option_map (λ s. East (pos s)) (ahead_in text)
    else (if sign == 45 then option_map (λ s. East (neg_ℤ (pos s))) (ahead_in text)
    else None)

-- whose clock shows a time, by what follows it: nothing, Z, or an offset
abbrev pub told_by : List ℕ → Option ToldBy
told_by [] = Some Clock
told_by (first ∷ rest) = if bytes_eq (first ∷ rest) (codes "Z") then Some (East (pos 0)) else signed_in first rest

-- the moment at which such a clock shows a time of a day
abbrev pub told : ℤ → ℕ → ToldBy → Moment
told day second Clock = Time day second
told day second (East ahead) = Second (pos 86400 *ℤ day +ℤ pos second -ℤ ahead)

-- a T or a blank between a date and a time
abbrev pub is_between : ℕ → Bool
is_between byte = (byte == 84) || (byte == 32)

-- the moment that a text says after its date
abbrev pub timed_on : ℤ → List ℕ → Option Moment
timed_on day text = option_and_then (λ time. option_map (told day time.0) (told_by time.1)) (time_in text)

-- the moment of a date and a time, as 2026-07-01T10:30 and 2026-07-01 10:30:00+02:00
abbrev pub timed : List ℕ → Option Moment
timed word = if is_between (slice_index word 10) then option_and_then (λ day. timed_on day (drop 11 word)) (day_named (take 10 word)) else None

-- the moment of a date
abbrev pub dated : List ℕ → Option Moment
dated word = option_map Day (day_named word)

-- a number after a minus
abbrev pub negative : List ℕ → Option ℤ
negative text = option_map (λ n. neg_ℤ (pos n)) (option_and_then number_of (after 45 text))

-- a number after an at sign, which a minus may stand before
abbrev pub after_sign : List ℕ → Option ℤ
after_sign word = option_and_then (λ text. option_or (negative text) (option_map pos (number_of text))) (after 64 word)

-- a zero after a minus
abbrev pub minus_zero : List ℕ → Option ℤ
minus_zero word = option_and_then (λ n. if n == 0 then Some (pos 0) else None) (option_and_then number_of (after 45 word))

-- a number alone: a plus may stand before it, and a minus before zero
abbrev pub number_alone : List ℕ → Option ℤ
number_alone word = option_or (option_map pos (number_of (without_leading_plus word))) (minus_zero word)

-- the moment of whole seconds since 1970, after an at sign or alone
abbrev pub counted : List ℕ → Option Moment
counted word = option_map Second (option_or (after_sign word) (number_alone word))

-- the moment that a word says: digits alone are seconds, however many
abbrev pub moment_of : List ℕ → Option Moment
moment_of word =
    if bytes_eq word (codes "now") then Some Now
    else option_or (counted word) (option_or (dated word) (timed word))

-- the same, but not of digits that could be a date
abbrev pub clear_moment_of : List ℕ → Option Moment
clear_moment_of word = if looks_like_date word then None else moment_of word

-- a moment up to another: from the first day of what a word names up to the day after its last
abbrev pub period_of : List ℕ → Option (Moment × Moment)
period_of word = option_map (λ days. (Day days.0, Day (days.1 +ℤ pos 1))) (days_named word)
