-- The rows by day, from a table of the days' sums.
use Rattle.std.proofs.Common.{◌≡◌, ℕ, ◌+◌, ◌<◌, ◌≢◌, ◌⊎◌, inl, inr, List, [], ◌∷◌, ℤ, map, filter, All, refl, sym, ap, ◌∙◌, arith}
use Rattle.std.proofs.lemmas.Bool.{cases_eq}
use Rattle.std.proofs.lemmas.Bool.Decides.{Decides-int_eq}
use Rattle.std.proofs.lemmas.Cmp.{int_cmp_total}
use Rattle.std.proofs.lemmas.List.Sums.{sum_by-cons}
use Rattle.std.specs.List.{flat_map}
use Rattle.std.specs.List.Sorted.{IsStrictlySortedBy}
use Rattle.std.specs.Map.{keys_of}
use Rattle.std.specs.Prelude.{nat_lt}
use Rattle.std.specs.Ordering.{int_cmp, is_eq}
use Rattle.std.specs.declared.cmp.Ordering.TheVariants.{Equal}
use Rattle.tally_records.proofs.Members.{Member, Member-append_left, Member-append_right, Member-map}
use Rattle.tally_records.specs.Sorted.{in_order}
use Rattle.tally_sessions.specs.declared.sums.Session.{Session}
use Rattle.tally_sessions.specs.declared.times.DayTime.{DayTime}
use Rattle.tally_clock.specs.Days.{days_of_seconds, seconds_on}
use Rattle.tally_sessions.specs.Days.{IsDay}
use Rattle.tally_sessions.specs.inside.Sums.{above_zero, day_time_of, sum_at}
use Rattle.tally_sessions.specs.Rows.{day_time, day_time_cmp, day_times}
use Rattle.tally_sessions.specs.Sums.{seconds_of_day}
use Rattle.tally_sessions.proofs.connect.Candidates.{rows_of_keys}
use Rattle.tally_sessions.proofs.days.ClockDays.{day_among}
use Rattle.tally_sessions.proofs.connect.RowLemmas.{rows_are, each_row}

-- days that tie are one
pub same_day : (a b : ℤ) → int_cmp a b ≡ Equal → a ≡ b
same_day a b e = (Decides-int_eq a b).0 (ap is_eq e)

-- the days of the seconds of sessions
abbrev pub days_of : (ℤ → ℤ) → List Session → List ℤ
days_of clock sessions = flat_map (λ s. map (λ (d : ℤ). d) (days_of_seconds clock s.begin s.end_time)) sessions

-- a day with connect time is one of a session's
pub day_counted : (clock : ℤ → ℤ) (day : ℤ) (ss : List Session) → 0 < seconds_of_day clock day ss → Member day (days_of clock ss)
day_counted clock day [] lt = absurd (omega (arith, lt))
day_counted clock day (s ∷ ss) lt = by (cases_eq (seconds_on clock day s.begin s.end_time) 0) (day_counted clock day ss)
  where
    whole : seconds_of_day clock day (s ∷ ss) ≡ seconds_on clock day s.begin s.end_time + seconds_of_day clock day ss
    whole = sum_by-cons (λ (x : Session). seconds_on clock day x.begin x.end_time) s ss

    by : (seconds_on clock day s.begin s.end_time ≡ 0) ⊎ (seconds_on clock day s.begin s.end_time ≢ 0) → (0 < seconds_of_day clock day ss → Member day (days_of clock ss)) → Member day (days_of clock (s ∷ ss))
    by (inl none) rest = Member-append_right (map (λ (d : ℤ). d) (days_of_seconds clock s.begin s.end_time)) (days_of clock ss) day (rest (omega (arith, lt, whole)))
    by (inr some) rest =
        Member-append_left (map (λ (d : ℤ). d) (days_of_seconds clock s.begin s.end_time)) (days_of clock ss) day
        (Member-map (λ (d : ℤ). d) (days_of_seconds clock s.begin s.end_time) day (day_among clock day s.begin s.end_time (omega arith)))

pub day_rows_are : (clock : ℤ → ℤ) (ss : List Session) (sums : List (ℤ × ℕ)) → IsStrictlySortedBy int_cmp (keys_of sums) → ((day : ℤ) → sum_at int_cmp sums day ≡ seconds_of_day clock day ss)
    → map day_time_of (filter above_zero sums) ≡ day_times clock ss
day_rows_are clock ss sums up at =
    rows_are int_cmp_total same_day (λ day n. record { day = day; seconds = n }) (λ (r : DayTime). r.day) (λ (r : DayTime). r.seconds) (λ day n. refl) (λ day n. refl)
    sums (λ day. seconds_of_day clock day ss) (days_of clock ss) up at (λ day lt. day_counted clock day ss lt)
    ∙ ap (λ rs. in_order day_time_cmp (filter (λ (r : DayTime). nat_lt 0 r.seconds) rs))
    (sym (rows_of_keys (day_time clock ss) (λ (s : Session) (d : ℤ). d) (λ (s : Session). days_of_seconds clock s.begin s.end_time) ss))

pub day_rows_days : (sums : List (ℤ × ℕ)) → IsStrictlySortedBy int_cmp (keys_of sums) → ((day : ℤ) → 0 < sum_at int_cmp sums day → IsDay day) → All (λ (r : DayTime). IsDay r.day) (map day_time_of (filter above_zero sums))
day_rows_days sums up days =
    each_row int_cmp_total same_day (λ day n. record { day = day; seconds = n }) (λ (r : DayTime). r.day) (λ (r : DayTime). r.seconds) (λ day n. refl) (λ day n. refl)
    (λ (r : DayTime). IsDay r.day) sums up days
