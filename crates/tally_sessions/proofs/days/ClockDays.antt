-- The days of a clock whose offsets are those that zones and questions can have.
use Rattle.std.proofs.Common.{◌≡◌, ℕ, zero, suc, ◌+◌, ◌<◌, ◌≤◌, ℤ, pos, neg_ℤ, ◌+ℤ◌, ◌-ℤ◌, ◌*ℤ◌, ◌≤ℤ◌, ◌<ℤ◌, Bool, true, false, cond, int_eq, inl, inr, ◌⊎◌, ◌∷◌, refl, subst, arith}
use Rattle.std.proofs.lemmas.Bool.{cases_eq, cases_lt}
use Rattle.std.proofs.lemmas.Bool.Decides.{Decides-int_eq}
use Rattle.std.proofs.lemmas.Int.{ints, clamps}
use Rattle.std.specs.Int.{int_max, int_min}
use Rattle.std.specs.List.{range_with_len}
use Rattle.tally_clock.proofs.DayLemmas.{floor, step_in, within_stay}
use Rattle.tally_clock.specs.Days.{day_of, days_of_seconds, second_on, seconds_between, seconds_from, seconds_on}
use Rattle.tally_clock.specs.Rows.{ClockRows, count_at, offset_after}
use Rattle.tally_records.proofs.Members.{Member, Member-map}
use Rattle.tally_sessions.specs.Days.{IsDay, IsOffset, local}
use Rattle.tally_sessions.proofs.days.SpanLemmas.{few_between}

-- a clock's offset is never further than that of a zone and a question
pub record IsNear (clock : ℤ → ℤ) : Type 0 where
  pub low : (time : ℤ) → neg_ℤ (pos 179939) ≤ℤ clock time
  pub high : (time : ℤ) → clock time ≤ℤ pos 179939

pub near_local : (clock : ClockRows) (offset : ℤ) → IsOffset offset → IsNear (local clock offset)
near_local clock offset h = record {
  low = λ time. let o = (offset_after clock.first clock.rows (count_at clock.rows time)).in_range in let k = h.low in omega (arith, ints, o, k);
  high = λ time. let o = (offset_after clock.first clock.rows (count_at clock.rows time)).in_range in let k = h.high in omega (arith, ints, o, k);
}

-- the first second that may be of a day, and the one after the last
abbrev pub earliest : ℤ → ℤ
earliest day = pos 86400 *ℤ day -ℤ pos 179939

abbrev pub latest : ℤ → ℤ
latest day = pos 86400 *ℤ (day +ℤ pos 1) +ℤ pos 179939

pub of_day : (clock : ℤ → ℤ) (day t : ℤ) → IsNear clock → day_of clock t ≡ day → (earliest day ≤ℤ t) × ((t +ℤ pos 1) ≤ℤ latest day)
of_day clock day t h is =
    let low = h.low t in
    let high = h.high t in
    let f = floor (t +ℤ clock t) in
    let begun = f.0 in
    let not_over = f.1 in
    (omega (arith, ints), omega (arith, ints))

longer : (x y z : ℤ) → y ≤ℤ z → seconds_between x y ≤ seconds_between x z
longer x y z le = grind (arith, ints, clamps)

later_min : (t e : ℤ) → int_min t e ≤ℤ int_min (t +ℤ pos 1) e
later_min t e = grind (arith, ints, clamps)

step_any : (b t s e : ℤ) → seconds_between (int_max b s) (int_min t e) ≤ seconds_between (int_max b s) (int_min (t +ℤ pos 1) e)
step_any b t s e = longer (int_max b s) (int_min t e) (int_min (t +ℤ pos 1) e) (later_min t e)

under : (t e : ℤ) → (t +ℤ pos 1) ≤ℤ e → t <ℤ e
under t e le = omega (arith, ints)

-- the seconds of a day lie between its earliest and its latest
within_day : (clock : ℤ → ℤ) (day b : ℤ) (n : ℕ) → IsNear clock → seconds_from clock day b n ≤ seconds_between (int_max b (earliest day)) (int_min (b +ℤ pos n) (latest day))
unfolding seconds_from
within_day clock day b zero h = omega arith
within_day clock day b (suc n) h =
    let t = b +ℤ pos n in
    let next : t +ℤ pos 1 ≡ b +ℤ pos (suc n) = omega (arith, ints) in
    let from : b ≤ℤ t = omega (arith, ints) in
    subst (λ (z : ℤ). seconds_from clock day b n + second_on clock day t ≤ seconds_between (int_max b (earliest day)) (int_min z (latest day))) next
    (by t from (int_eq (day_of clock t) day) refl (within_day clock day b n h))
  where
    by : (t : ℤ) → b ≤ℤ t → (p : Bool) → int_eq (day_of clock t) day ≡ p → seconds_from clock day b n ≤ seconds_between (int_max b (earliest day)) (int_min t (latest day))
        → seconds_from clock day b n + cond p 1 0 ≤ seconds_between (int_max b (earliest day)) (int_min (t +ℤ pos 1) (latest day))
    by t from true e rest =
        let lies = of_day clock day t h ((Decides-int_eq (day_of clock t) day).0 e) in
        let more = step_in b t (earliest day) (latest day) from lies.0 (under t (latest day) lies.1) in
        omega arith
    by t from false e rest = let more = step_any b t (earliest day) (latest day) in omega arith

min_at_most : (e t : ℤ) → int_min e t ≤ℤ t
min_at_most e t = grind (arith, ints, clamps)

max_at_least_last : (b s : ℤ) → s ≤ℤ int_max b s
max_at_least_last b s = grind (arith, ints, clamps)

-- a day is short, whatever the clock
pub seconds_on-le : (clock : ℤ → ℤ) (day b e : ℤ) → IsNear clock → seconds_on clock day b e ≤ 446278
seconds_on-le clock day b e h =
    let n = seconds_between b e in
    let all = within_day clock day b n h in
    let low = min_at_most (b +ℤ pos n) (latest day) in
    let high = max_at_least_last b (earliest day) in
    let few = few_between (int_max b (earliest day)) (int_min (b +ℤ pos n) (latest day)) 446278 (omega (arith, ints, low, high)) in
    omega arith

-- a second of the day, where there is one
pub record HasSecond (clock : ℤ → ℤ) (day b : ℤ) (n : ℕ) : Type 0 where
  pub place : ℕ
  pub within : place < n
  pub day_is : day_of clock (b +ℤ pos place) ≡ day

pub some_second : (clock : ℤ → ℤ) (day b : ℤ) (n : ℕ) → 0 < seconds_from clock day b n → HasSecond clock day b n
unfolding seconds_from
some_second clock day b zero lt = absurd (omega arith)
some_second clock day b (suc n) lt = by (int_eq (day_of clock (b +ℤ pos n)) day) refl lt (some_second clock day b n)
  where
    by : (p : Bool) → int_eq (day_of clock (b +ℤ pos n)) day ≡ p → 0 < seconds_from clock day b n + cond p 1 0 → (0 < seconds_from clock day b n → HasSecond clock day b n) → HasSecond clock day b (suc n)
    by true e l rest = record { place = n; within = omega arith; day_is = (Decides-int_eq (day_of clock (b +ℤ pos n)) day).0 e }
    by false e l rest = let r = rest (omega arith) in record { place = r.place; within = omega (arith, r.within); day_is = r.day_is }

member_range : (a n k : ℕ) → a ≤ k → k < a + n → Member k (range_with_len a n)
member_range a zero k le lt = absurd (omega arith)
member_range a (suc n) k le lt = by (cases_le a k) (member_range (a + 1) n k)
  where
    cases_le : (x y : ℕ) → (y ≡ x) ⊎ ((x + 1 ≤ y) ⊎ (y < x))
    cases_le x y = elim (cases_eq y x) [ inl e ↦ inl e | inr other ↦ elim (cases_lt y x) [ inl lt ↦ inr (inr lt) | inr le ↦ inr (inl (omega arith)) ] ]

    by : (k ≡ a) ⊎ ((a + 1 ≤ k) ⊎ (k < a)) → (a + 1 ≤ k → k < a + 1 + n → Member k (range_with_len (a + 1) n)) → Member k (a ∷ range_with_len (a + 1) n)
    by (inl e) rest = inl e
    by (inr (inl l)) rest = inr (rest l (omega arith))
    by (inr (inr l)) rest = absurd (omega arith)

-- a day with seconds of a stay is the day of one of them
pub day_among : (clock : ℤ → ℤ) (day b e : ℤ) → 0 < seconds_on clock day b e → Member day (days_of_seconds clock b e)
day_among clock day b e lt =
    let s = some_second clock day b (seconds_between b e) lt in
    subst (λ (d : ℤ). Member d (days_of_seconds clock b e)) s.day_is
    (Member-map (λ k. day_of clock (b +ℤ pos k)) (range_with_len 0 (seconds_between b e)) s.place
    (member_range 0 (seconds_between b e) s.place (omega arith) (omega (arith, s.within))))

-- and one that a time can have
pub day_is_one : (clock : ℤ → ℤ) (day b e : ℤ) → IsNear clock → neg_ℤ (pos 2147483648) ≤ℤ b → e ≤ℤ pos 2147483648 → 0 < seconds_on clock day b e → IsDay day
day_is_one clock day b e h low high lt =
    let s = some_second clock day b (seconds_between b e) lt in
    let at = within_stay b e s.place s.within in
    let from = at.0 in
    let to = at.1 in
    let lies = of_day clock day (b +ℤ pos s.place) h s.day_is in
    let first = lies.0 in
    let last = lies.1 in
    record { low = omega (arith, ints, from, to, first, last, low, high); high = omega (arith, ints, from, to, first, last, low, high) }
