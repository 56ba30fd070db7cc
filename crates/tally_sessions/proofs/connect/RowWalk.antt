-- The rows of a clock, each added to a table of days as often as the counts up to it say.
use Rattle.std.proofs.Common.{◌≡◌, ◌∙◌, ◌⊎◌, inl, inr, ℕ, ◌+◌, ◌*◌, ◌<◌, ◌≤◌, ◌^◌, ℤ, pos, neg_ℤ, ◌+ℤ◌, ◌*ℤ◌, ◌≤ℤ◌, List, length, sym, ap, subst, arith}
use Rattle.std.proofs.lemmas.Bool.{cases_lt}
use Rattle.std.proofs.lemmas.Int.{ints}
use Rattle.std.specs.Prelude.{unsigned_abs}
use Rattle.tally_clock.specs.declared.row.Row.{Row}
use Rattle.tally_sessions.specs.inside.Changes.{change_at, day_at, told_at}
use Rattle.tally_sessions.specs.inside.Counts.{change_since, size_of, stand_for}
use Rattle.tally_sessions.specs.inside.Spans.{span_change}
use Rattle.tally_sessions.proofs.connect.CountLemmas.{change_since-few, size_step, size_up_to, stand_small, stand_start, stand_step}
use Rattle.tally_sessions.proofs.connect.CutLemmas.{change_past}
use Rattle.tally_sessions.proofs.connect.DayChanges.{past_end}
use Rattle.tally_sessions.proofs.connect.Weights.{none_times, product-high, product-low, times_none, times_of_sum, times_sum}
use Rattle.tally_sessions.proofs.days.ClockDays.{IsNear}

-- what the counts of the rows before one stand for is in the table, but for what goes on from it
pub record IsRowWalk (clock : ℤ → ℤ) (rows : List Row) (counts old now : List ℤ) (times : ℤ) (row : ℕ) : Type 0 where
  pub all_days : length now ≡ 49717
  pub small : unsigned_abs times ≤ size_of (change_at counts) row
  pub value : (place : ℕ) → place < 49717
      → change_at now place +ℤ times *ℤ change_since clock rows (day_at place) row ≡ change_at old place +ℤ stand_for (change_at counts) (change_since clock rows (day_at place)) row

start_value : (t s x p : ℤ) → s ≡ pos 0 → p ≡ pos 0 → t +ℤ p ≡ t +ℤ s
start_value t s x p e f = omega (arith, ints)

pub row_walk-start : (clock : ℤ → ℤ) (rows : List Row) (counts old : List ℤ) (times : ℤ) → length old ≡ 49717 → times ≡ pos 0 → IsRowWalk clock rows counts old old times 0
row_walk-start clock rows counts old times long none = record {
  all_days = long;
  small = subst (λ (z : ℤ). unsigned_abs z ≤ size_of (change_at counts) 0) (sym none) (omega arith);
  value = λ place lt. start_value (change_at old place) _ (pos 0) _ (stand_start (change_at counts) (change_since clock rows (day_at place)))
      (none_of times (change_since clock rows (day_at place) 0) none);
}
  where
    none_of : (c x : ℤ) → c ≡ pos 0 → c *ℤ x ≡ pos 0
    none_of c x e = none_times c x e

abs_sum : (x y : ℤ) → unsigned_abs (x +ℤ y) ≤ unsigned_abs x + unsigned_abs y
abs_sum x y = grind (arith, ints)

-- with one row more
next_small : (counts : List ℤ) (times next : ℤ) (row : ℕ) → next ≡ times +ℤ change_at counts row → unsigned_abs times ≤ size_of (change_at counts) row → unsigned_abs next ≤ size_of (change_at counts) (row + 1)
next_small counts times next row is small =
    let sum = abs_sum times (change_at counts row) in
    let step = size_step (change_at counts) row in
    let same = ap unsigned_abs is in
    omega arith

pub next_few : (counts : List ℤ) (times next : ℤ) (row n : ℕ) → row < n → size_of (change_at counts) n ≤ 33554432 → next ≡ times +ℤ change_at counts row → unsigned_abs times ≤ size_of (change_at counts) row → unsigned_abs next ≤ 33554432
next_few counts times next row n lt few is small =
    let one = next_small counts times next row is small in
    let up = size_up_to (change_at counts) (row + 1) n (omega arith) in
    omega arith

-- the table is small before a row is added
pub row_walk-within : (clock : ℤ → ℤ) (rows : List Row) (counts old now : List ℤ) (times : ℤ) (row n : ℕ) → IsNear clock → row ≤ n → size_of (change_at counts) n ≤ 33554432
    → ((place : ℕ) → neg_ℤ (pos (2 ^ 61)) ≤ℤ change_at old place) → ((place : ℕ) → change_at old place ≤ℤ pos (2 ^ 61)) → IsRowWalk clock rows counts old now times row
    → (place : ℕ) → (neg_ℤ (pos (2 ^ 62)) ≤ℤ change_at now place) × (change_at now place ≤ℤ pos (2 ^ 62))
row_walk-within clock rows counts old now times row n near le few low high h place = by (cases_lt place 49717)
  where
    bounds : (t s p o : ℤ) → t +ℤ p ≡ o +ℤ s → unsigned_abs s ≤ 33554432 * 446278 → neg_ℤ (pos (33554432 * 446278)) ≤ℤ p → p ≤ℤ pos (33554432 * 446278) → neg_ℤ (pos (2 ^ 61)) ≤ℤ o → o ≤ℤ pos (2 ^ 61)
        → (neg_ℤ (pos (2 ^ 62)) ≤ℤ t) × (t ≤ℤ pos (2 ^ 62))
    bounds t s p o is few low high a b = (omega (arith, ints, abs_low s few), omega (arith, ints, abs_high s few))
      where
        abs_low : (s : ℤ) → unsigned_abs s ≤ 33554432 * 446278 → neg_ℤ (pos (33554432 * 446278)) ≤ℤ s
        abs_low s few = grind (arith, ints)

        abs_high : (s : ℤ) → unsigned_abs s ≤ 33554432 * 446278 → s ≤ℤ pos (33554432 * 446278)
        abs_high s few = grind (arith, ints)

    by : (place < 49717) ⊎ (49717 ≤ place) → (neg_ℤ (pos (2 ^ 62)) ≤ℤ change_at now place) × (change_at now place ≤ℤ pos (2 ^ 62))
    by (inl lt) =
        let x = change_since clock rows (day_at place) in
        let up = size_up_to (change_at counts) row n le in
        let size : size_of (change_at counts) row ≤ 33554432 = omega arith in
        let times_few : unsigned_abs times ≤ 33554432 = omega (arith, h.small) in
        let stand = stand_small (change_at counts) x 446278 row (λ k. change_since-few clock rows (day_at place) k near) in
        bounds (change_at now place) (stand_for (change_at counts) x row) (times *ℤ x row) (change_at old place) (h.value place lt)
        (omega (arith, stand, size))
        (product-low times (x row) 33554432 446278 times_few (change_since-few clock rows (day_at place) row near))
        (product-high times (x row) 33554432 446278 times_few (change_since-few clock rows (day_at place) row near))
        (low place) (high place)
    by (inr past) = let none = past_end now place h.all_days past in (omega (arith, ints, none), omega (arith, ints, none))

step_value : (t t' o s s' tx nx c x y d n-y n-d : ℤ) → t +ℤ tx ≡ o +ℤ s → s' ≡ s +ℤ c → t' ≡ t +ℤ n-d → nx ≡ tx +ℤ c → nx ≡ n-d +ℤ n-y → t' +ℤ n-y ≡ o +ℤ s'
step_value t t' o s s' tx nx c x y d n-y n-d before stands added sum parts = omega (arith, ints)

pub row_walk-step : (clock : ℤ → ℤ) (rows : List Row) (counts old now new : List ℤ) (times next b e : ℤ) (row : ℕ) → IsRowWalk clock rows counts old now times row → length new ≡ length now → next ≡ times +ℤ change_at counts row
    → ((day : ℤ) → change_since clock rows day row ≡ span_change day b e +ℤ change_since clock rows day (row + 1))
    → ((place : ℕ) → place < 49717 → change_at new place ≡ change_at now place +ℤ next *ℤ span_change (day_at place) b e) → IsRowWalk clock rows counts old new next (row + 1)
row_walk-step clock rows counts old now new times next b e row h long is parts added = record {
  all_days = long ∙ h.all_days;
  small = next_small counts times next row is h.small;
  value = λ place lt.
      let x = change_since clock rows (day_at place) in
      let d = span_change (day_at place) b e in
      step_value (change_at now place) (change_at new place) (change_at old place) (stand_for (change_at counts) x row) (stand_for (change_at counts) x (row + 1))
      (times *ℤ x row) (next *ℤ x row) (change_at counts row *ℤ x row) (x row) (x (row + 1)) d (next *ℤ x (row + 1)) (next *ℤ d)
      (h.value place lt) (stand_step (change_at counts) x row) (added place lt)
      (ap (λ (z : ℤ). z *ℤ x row) is ∙ times_sum times (change_at counts row) (x row))
      (ap (λ (z : ℤ). next *ℤ z) (parts (day_at place)) ∙ times_of_sum next d (x (row + 1)));
}

end_value : (t p o s : ℤ) → t +ℤ p ≡ o +ℤ s → p ≡ pos 0 → t ≡ o +ℤ s
end_value t p o s is none = omega (arith, ints)

pub row_walk-end : (clock : ℤ → ℤ) (rows : List Row) (counts old now : List ℤ) (times : ℤ) (row : ℕ) → IsRowWalk clock rows counts old now times row → row ≡ length rows
    → (place : ℕ) → place < 49717 → change_at now place ≡ told_at clock rows old counts place
row_walk-end clock rows counts old now times row h all place lt =
    let x = change_since clock rows (day_at place) in
    end_value (change_at now place) (times *ℤ x row) (change_at old place) (stand_for (change_at counts) x row) (h.value place lt)
    (times_none times (x row) (change_past clock rows (day_at place) row (omega arith)))
    ∙ ap (λ (n : ℕ). change_at old place +ℤ stand_for (change_at counts) x n) all
