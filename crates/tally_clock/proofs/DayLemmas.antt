-- The seconds of a stay on the days of a clock.
use Rattle.std.proofs.Common.{◌≡◌, ℕ, zero, suc, ◌+◌, ◌<◌, ◌/◌, ◌%◌, ℤ, pos, negsuc, ◌+ℤ◌, ◌-ℤ◌, ◌*ℤ◌, ◌≤ℤ◌, ◌<ℤ◌, Bool, true, false, cond, List, [], ◌∷◌, refl, sym, subst, ap, ◌∙◌, arith, int_eq}
use Rattle.std.proofs.lemmas.Int.{ints, clamps}
use Rattle.std.proofs.lemmas.List.Sums.{sum_by-cons}
use Rattle.std.specs.Prelude.{sum_by, int_le}
use Rattle.std.specs.List.{range_with_len}
use Rattle.std.specs.Int.{int_div_euclid, int_max, int_min}
use borrow.Author.Differences.{le-true, le-false}
use Rattle.jiff_core.proofs.SignedLemmas.{signed_arith}
use Rattle.tally_clock.specs.Days.{day_of, day_start, second_on, seconds_from, seconds_between, seconds_on, PartsAddUp, DaysAddUp, DaysHoldTheirTimes, DaysOfOneOffset}

pub forward : (b e : ℤ) → b ≤ℤ e → pos (seconds_between b e) ≡ e -ℤ b
forward b e le = grind (arith, ints, clamps)

-- more seconds
pub more : (clock : ℤ → ℤ) (day begin : ℤ) (m n : ℕ) → seconds_from clock day begin (m + n) ≡ seconds_from clock day begin m + seconds_from clock day (begin +ℤ pos m) n
unfolding seconds_from
more clock day begin m zero = ap (λ (k : ℕ). seconds_from clock day begin k) (let e : m + 0 ≡ m = omega arith in e) ∙ (let e : seconds_from clock day begin m ≡ seconds_from clock day begin m + 0 = omega arith in e)
more clock day begin m (suc n) =
    let next : m + suc n ≡ suc (m + n) = omega arith in
    let place : begin +ℤ pos (m + n) ≡ (begin +ℤ pos m) +ℤ pos n = omega (arith, signed_arith) in
    let rest = more clock day begin m n in
    let last = ap (λ (t : ℤ). second_on clock day t) place in
    ap (λ (k : ℕ). seconds_from clock day begin k) next ∙ (let e : seconds_from clock day begin (m + n) + second_on clock day (begin +ℤ pos (m + n)) ≡ seconds_from clock day begin m + (seconds_from clock day (begin +ℤ pos m) n + second_on clock day ((begin +ℤ pos m) +ℤ pos n)) = omega (arith, rest, last) in e)

pub parts_add_up : PartsAddUp
parts_add_up clock day b t e le le' =
    let one = forward b t le in
    let two = forward t e le' in
    let whole = forward b e (omega (arith, signed_arith)) in
    let m = seconds_between b t in
    let n = seconds_between t e in
    let all : seconds_between b e ≡ m + n = omega (arith, signed_arith) in
    let there : b +ℤ pos m ≡ t = omega (arith, signed_arith) in
    sym (ap (λ (k : ℕ). seconds_from clock day b k) all ∙ more clock day b m n ∙ ap (λ (x : ℤ). seconds_from clock day b m + seconds_from clock day x n) there)

-- whether a test of two numbers passes
number_same : (a b : ℤ) → int_eq a b ≡ true → a ≡ b
number_same a b e = grind (arith, ints, clamps, e)

number_other : (a b : ℤ) → int_eq a b ≡ false → a ≡ b → ⊥
number_other a b e = grind (arith, ints, clamps, e)

pub test_same : (a b : ℤ) → a ≡ b → int_eq a b ≡ true
test_same a b e = by (int_eq a b) refl
  where
    by : (p : Bool) → int_eq a b ≡ p → p ≡ true
    by true h = refl
    by false h = absurd (number_other a b h e)

pub test_other : (a b : ℤ) → (a ≡ b → ⊥) → int_eq a b ≡ false
test_other a b ne = by (int_eq a b) refl
  where
    by : (p : Bool) → int_eq a b ≡ p → p ≡ false
    by true h = absurd (ne (number_same a b h))
    by false h = refl

-- a sum of sums
sums_apart : (f g : ℕ → ℕ) (xs : List ℕ) → sum_by (λ k. f k + g k) xs ≡ sum_by f xs + sum_by g xs
sums_apart f g [] = refl
sums_apart f g (x ∷ xs) =
    let rest = sums_apart f g xs in
    let whole = sum_by-cons (λ k. f k + g k) x xs in
    let one = sum_by-cons f x xs in
    let two = sum_by-cons g x xs in
    omega (arith, rest, whole, one, two)

no_sum : (xs : List ℕ) → sum_by (λ k. 0) xs ≡ 0
no_sum [] = refl
no_sum (x ∷ xs) =
    let rest = no_sum xs in
    let whole = sum_by-cons (λ k. 0) x xs in
    omega (arith, rest, whole)

-- how many of some days are a day
abbrev is_day : ℤ → ℤ → ℕ → ℕ
is_day d first k = cond (int_eq d (first +ℤ pos k)) 1 0

-- a day before them is none of them
earlier_day : (d first : ℤ) (a n : ℕ) → d <ℤ (first +ℤ pos a) → sum_by (is_day d first) (range_with_len a n) ≡ 0
earlier_day d first a zero l = refl
earlier_day d first a (suc n) l =
    let other : int_eq d (first +ℤ pos a) ≡ false = test_other d (first +ℤ pos a) (λ e. omega (arith, signed_arith)) in
    let rest = earlier_day d first (a + 1) n (omega (arith, signed_arith)) in
    let head : is_day d first a ≡ 0 = ap (λ b. cond b 1 0) other in
    let whole = sum_by-cons (is_day d first) a (range_with_len (a + 1) n) in
    whole ∙ (let e : is_day d first a + sum_by (is_day d first) (range_with_len (a + 1) n) ≡ 0 = omega (arith, rest, head) in e)

-- a day among them is one of them
one_day : (d first : ℤ) (a n : ℕ) → (first +ℤ pos a) ≤ℤ d → d <ℤ (first +ℤ pos (a + n)) → sum_by (is_day d first) (range_with_len a n) ≡ 1
one_day d first a zero l u = absurd (omega (arith, signed_arith))
one_day d first a (suc n) l u = sum_by-cons (is_day d first) a (range_with_len (a + 1) n) ∙ by (λ over. one_day d first (a + 1) n over (omega (arith, signed_arith))) (int_eq d (first +ℤ pos a)) refl
  where
    by : ((first +ℤ pos (a + 1)) ≤ℤ d → sum_by (is_day d first) (range_with_len (a + 1) n) ≡ 1) → (b : Bool) → int_eq d (first +ℤ pos a) ≡ b → cond b 1 0 + sum_by (is_day d first) (range_with_len (a + 1) n) ≡ 1
    by later true e =
        let is = number_same d (first +ℤ pos a) e in
        let rest = earlier_day d first (a + 1) n (omega (arith, signed_arith)) in
        omega (arith, rest)
    by later false e =
        let over : (first +ℤ pos (a + 1)) ≤ℤ d = not_last e in
        let rest = later over in
        omega (arith, rest)
      where
        not_last : int_eq d (first +ℤ pos a) ≡ false → (first +ℤ pos (a + 1)) ≤ℤ d
        not_last e = elim (int_le d (first +ℤ pos a)) as (λ b. int_le d (first +ℤ pos a) ≡ b → (first +ℤ pos (a + 1)) ≤ℤ d) [
          | true ↦ λ h. let le = le-true d (first +ℤ pos a) h in absurd (number_other d (first +ℤ pos a) e (omega (arith, signed_arith)))
          | false ↦ λ h. let up = le-false d (first +ℤ pos a) h in omega (arith, signed_arith)
        ] refl

-- the seconds from one on over all the days
all_seconds : (clock : ℤ → ℤ) (begin first : ℤ) (count n : ℕ)
    → ((k : ℕ) → k < n → (first ≤ℤ day_of clock (begin +ℤ pos k)) × (day_of clock (begin +ℤ pos k) <ℤ (first +ℤ pos count)))
    → sum_by (λ k. seconds_from clock (first +ℤ pos k) begin n) (range_with_len 0 count) ≡ n
unfolding seconds_from
all_seconds clock begin first count zero within = no_sum (range_with_len 0 count)
all_seconds clock begin first count (suc n) within =
    let here = within n (omega arith) in
    let low = here.0 in
    let high = here.1 in
    let d = day_of clock (begin +ℤ pos n) in
    let one = one_day d first 0 count (omega (arith, signed_arith)) (let zero_more : 0 + count ≡ count = omega arith in rw zero_more high) in
    let rest = all_seconds clock begin first count n (λ k l. within k (omega arith)) in
    sums_apart (λ k. seconds_from clock (first +ℤ pos k) begin n) (is_day d first) (range_with_len 0 count)
    ∙ (let e : sum_by (λ k. seconds_from clock (first +ℤ pos k) begin n) (range_with_len 0 count) + sum_by (is_day d first) (range_with_len 0 count) ≡ suc n = omega (arith, rest, one) in e)

pub within_stay : (b e : ℤ) (k : ℕ) → k < seconds_between b e → (b ≤ℤ (b +ℤ pos k)) × ((b +ℤ pos k) <ℤ e)
within_stay b e k l = (omega (arith, signed_arith), grind (arith, ints, clamps))

pub days_add_up : DaysAddUp
days_add_up clock b e first count within =
    all_seconds clock b first count (seconds_between b e) (λ k l. let at = within_stay b e k l in within (b +ℤ pos k) at.0 at.1)

least : (x y : ℤ) → x ≤ℤ y → int_min x y ≡ x
least x y l = grind (arith, ints, clamps)

most : (x y z : ℤ) → x ≤ℤ z → y ≤ℤ z → int_max x y ≤ℤ z
most x y z l m = grind (arith, ints, clamps)

-- a second more of a span
pub step_in : (b t s e : ℤ) → b ≤ℤ t → s ≤ℤ t → t <ℤ e → seconds_between (int_max b s) (int_min (t +ℤ pos 1) e) ≡ seconds_between (int_max b s) (int_min t e) + 1
step_in b t s e in_stay from to =
    let low = most b s t in_stay from in
    let last = least (t +ℤ pos 1) e (omega (arith, signed_arith)) in
    let here = least t e (omega (arith, signed_arith)) in
    let one = forward (int_max b s) (t +ℤ pos 1) (omega (arith, signed_arith)) in
    let two = forward (int_max b s) t low in
    ap (λ (z : ℤ). seconds_between (int_max b s) z) last
    ∙ (let e : seconds_between (int_max b s) (t +ℤ pos 1) ≡ seconds_between (int_max b s) t + 1 = omega (arith, signed_arith) in e)
    ∙ ap (λ (z : ℤ). seconds_between (int_max b s) z + 1) (sym here)

step_before : (b t s e : ℤ) → t <ℤ s → seconds_between (int_max b s) (int_min (t +ℤ pos 1) e) ≡ seconds_between (int_max b s) (int_min t e) + 0
step_before b t s e l = grind (arith, ints, clamps)

step_after : (b t s e : ℤ) → e ≤ℤ t → seconds_between (int_max b s) (int_min (t +ℤ pos 1) e) ≡ seconds_between (int_max b s) (int_min t e) + 0
step_after b t s e l = grind (arith, ints, clamps)

no_seconds : (b s e : ℤ) → seconds_between (int_max b s) (int_min b e) ≡ 0
no_seconds b s e = grind (arith, ints, clamps)

one_offset : (clock : ℤ → ℤ) (offset day begin : ℤ) (n : ℕ) → ((k : ℕ) → k < n → clock (begin +ℤ pos k) ≡ offset)
    → seconds_from clock day begin n ≡ seconds_between (int_max begin (day_start offset day)) (int_min (begin +ℤ pos n) (day_start offset (day +ℤ pos 1)))
unfolding seconds_from
one_offset clock offset day begin zero stays =
    let same : begin ≡ begin +ℤ pos 0 = omega (arith, signed_arith) in
    sym (no_seconds begin (day_start offset day) (day_start offset (day +ℤ pos 1))) ∙ ap (λ (z : ℤ). seconds_between (int_max begin (day_start offset day)) (int_min z (day_start offset (day +ℤ pos 1)))) same
one_offset clock offset day begin (suc n) stays =
    let t = begin +ℤ pos n in
    let s = day_start offset day in
    let e = day_start offset (day +ℤ pos 1) in
    let rest = one_offset clock offset day begin n (λ k l. stays k (omega arith)) in
    let next : t +ℤ pos 1 ≡ begin +ℤ pos (suc n) = omega (arith, signed_arith) in
    ap (λ k. k + second_on clock day t) rest
    ∙ by t (omega (arith, signed_arith)) (stays n (omega arith)) (int_eq (day_of clock t) day) refl
    ∙ ap (λ (z : ℤ). seconds_between (int_max begin s) (int_min z e)) next
  where
    by : (t : ℤ) → begin ≤ℤ t → clock t ≡ offset → (b : Bool) → int_eq (day_of clock t) day ≡ b
        → seconds_between (int_max begin (day_start offset day)) (int_min t (day_start offset (day +ℤ pos 1))) + cond b 1 0
        ≡ seconds_between (int_max begin (day_start offset day)) (int_min (t +ℤ pos 1) (day_start offset (day +ℤ pos 1)))
    by t in_stay is true h =
        let this = number_same (day_of clock t) day h in
        sym (step_in begin t (day_start offset day) (day_start offset (day +ℤ pos 1)) in_stay (omega (arith, signed_arith)) (omega (arith, signed_arith)))
    by t in_stay is false h = elim (int_le (day_start offset day) t) as (λ b. int_le (day_start offset day) t ≡ b → seconds_between (int_max begin (day_start offset day)) (int_min t (day_start offset (day +ℤ pos 1))) + 0
        ≡ seconds_between (int_max begin (day_start offset day)) (int_min (t +ℤ pos 1) (day_start offset (day +ℤ pos 1)))) [
          | true ↦ λ b.
              let from = le-true (day_start offset day) t b in
              sym (step_after begin t (day_start offset day) (day_start offset (day +ℤ pos 1)) (past (omega (arith, signed_arith))))
          | false ↦ λ b.
              let before = le-false (day_start offset day) t b in
              sym (step_before begin t (day_start offset day) (day_start offset (day +ℤ pos 1)) (omega (arith, signed_arith)))
        ] refl
      where
        past : day_start offset day ≤ℤ t → day_start offset (day +ℤ pos 1) ≤ℤ t
        past from = elim (int_le (day_start offset (day +ℤ pos 1)) t) as (λ b. int_le (day_start offset (day +ℤ pos 1)) t ≡ b → day_start offset (day +ℤ pos 1) ≤ℤ t) [
          | true ↦ λ b. let over = le-true (day_start offset (day +ℤ pos 1)) t b in omega (arith, signed_arith)
          | false ↦ λ b.
              let under = le-false (day_start offset (day +ℤ pos 1)) t b in
              absurd (number_other (day_of clock t) day h (omega (arith, signed_arith)))
        ] refl

no_time : (b s e t : ℤ) → e ≤ℤ b → 0 ≡ seconds_between (int_max b s) (int_min e t)
no_time b s e t l = grind (arith, ints, clamps)

pub days_of_one_offset : DaysOfOneOffset
unfolding seconds_from
days_of_one_offset clock offset day b e stays = elim (int_le b e) as (λ p. int_le b e ≡ p → seconds_on clock day b e ≡ seconds_between (int_max b (day_start offset day)) (int_min e (day_start offset (day +ℤ pos 1)))) [
  | true ↦ λ h.
      let le = le-true b e h in
      let f = forward b e (omega (arith, signed_arith)) in
      let there : b +ℤ pos (seconds_between b e) ≡ e = omega (arith, signed_arith) in
      one_offset clock offset day b (seconds_between b e) (λ k l. let at = within_stay b e k l in stays (b +ℤ pos k) at.0 at.1)
      ∙ ap (λ (z : ℤ). seconds_between (int_max b (day_start offset day)) (int_min z (day_start offset (day +ℤ pos 1)))) there
  | false ↦ λ h.
      let over = le-false b e h in
      let none : seconds_between b e ≡ 0 = sym (back (omega (arith, signed_arith))) in
      ap (λ (k : ℕ). seconds_from clock day b k) none ∙ nothing ∙ no_time b (day_start offset day) e (day_start offset (day +ℤ pos 1)) (omega (arith, signed_arith))
] refl
  where
    back : e ≤ℤ b → 0 ≡ seconds_between b e
    back l = grind (arith, ints, clamps)

    nothing : seconds_from clock day b 0 ≡ 0
    nothing = refl

-- 86,400 seconds to a day, rounded down
pub floor : (z : ℤ) → ((pos 86400 *ℤ int_div_euclid z (pos 86400)) ≤ℤ z) × ((z +ℤ pos 1) ≤ℤ ((pos 86400 *ℤ int_div_euclid z (pos 86400)) +ℤ pos 86400))
floor (pos a) = let q = a / 86400 in let r = a % 86400 in (omega (arith, ints), omega (arith, ints))
floor (negsuc a) = let q = a / 86400 in let r = a % 86400 in (omega (arith, ints), omega (arith, ints))

-- a second is within its day
day_begun : (offset time : ℤ) → day_start offset (day_of (λ t. offset) time) ≤ℤ time
day_begun offset time = let f = (floor (time +ℤ offset)).0 in omega (arith, ints)

day_not_over : (offset time : ℤ) → (time +ℤ pos 1) ≤ℤ day_start offset (day_of (λ t. offset) time +ℤ pos 1)
day_not_over offset time = let f = (floor (time +ℤ offset)).1 in omega (arith, ints)

one_day_holds : (offset day time : ℤ) → day_start offset day ≤ℤ time → (time +ℤ pos 1) ≤ℤ day_start offset (day +ℤ pos 1) → day_of (λ t. offset) time ≡ day
one_day_holds offset day time from to = let begun = day_begun offset time in let not_over = day_not_over offset time in omega (arith, ints)

pub days_hold_their_times : DaysHoldTheirTimes
days_hold_their_times offset day time = (
  λ is. (subst (λ (d : ℤ). day_start offset d ≤ℤ time) is (day_begun offset time), subst (λ (d : ℤ). (time +ℤ pos 1) ≤ℤ day_start offset (d +ℤ pos 1)) is (day_not_over offset time)),
  λ within. one_day_holds offset day time within.0 within.1,
)
