-- What counts by row stand for.
use Rattle.std.proofs.Common.{◌≡◌, ◌≢◌, ◌⊎◌, inl, inr, ◌∙◌, ℕ, zero, suc, ◌+◌, ◌*◌, ◌<◌, ◌≤◌, ◌^◌, ℤ, pos, neg_ℤ, ◌+ℤ◌, ◌-ℤ◌, ◌*ℤ◌, Bool, true, false, cond, List, length, set, refl, sym, ap, subst, mul-le-mul, arith}
use Rattle.std.proofs.lemmas.Bool.{cases_eq}
use Rattle.std.proofs.lemmas.Grind.{get_or-set_at}
use Rattle.std.proofs.lemmas.Int.{ints, unsigned_abs-mul}
use Rattle.std.proofs.lemmas.List.{get_or-set_other}
use Rattle.std.specs.Prelude.{unsigned_abs}
use Rattle.tally_clock.specs.declared.row.Row.{Row}
use Rattle.tally_sessions.specs.inside.Changes.{change_at}
use Rattle.tally_sessions.specs.inside.Counts.{change_since, seconds_since, size_of, stand_for, start_of}
use Rattle.tally_sessions.proofs.connect.Weights.{none_times, times_sum}
use Rattle.tally_sessions.proofs.days.ClockDays.{IsNear, seconds_on-le}

-- one count is more by so much, and the others are as they were
pub record IsMoreAt (old new : ℕ → ℤ) (row : ℕ) (more : ℤ) : Type 0 where
  pub at : new row ≡ old row +ℤ more
  pub others : (k : ℕ) → k ≢ row → new k ≡ old k

abs_sum : (x y : ℤ) → unsigned_abs (x +ℤ y) ≤ unsigned_abs x + unsigned_abs y
abs_sum x y = grind (arith, ints)

stand_same : (old new change : ℕ → ℤ) (n : ℕ) → ((k : ℕ) → k < n → new k ≡ old k) → stand_for new change n ≡ stand_for old change n
unfolding stand_for
stand_same old new change zero same = refl
stand_same old new change (suc n) same = λ i. stand_same old new change n (λ k lt. same k (omega arith)) i +ℤ same n (omega arith) i *ℤ change n

pub size_same : (old new : ℕ → ℤ) (n : ℕ) → ((k : ℕ) → k < n → new k ≡ old k) → size_of new n ≡ size_of old n
unfolding size_of
size_same old new zero same = refl
size_same old new (suc n) same = λ i. size_same old new n (λ k lt. same k (omega arith)) i + unsigned_abs (same n (omega arith) i)

add_last : (s w p q : ℤ) → w ≡ p +ℤ q → s +ℤ w ≡ (s +ℤ p) +ℤ q
add_last s w p q e = omega (arith, ints)

add_before : (s t p q : ℤ) → s ≡ t +ℤ q → s +ℤ p ≡ (t +ℤ p) +ℤ q
add_before s t p q e = omega (arith, ints)

pub stand_more : (old new change : ℕ → ℤ) (row n : ℕ) (more : ℤ) → row < n → IsMoreAt old new row more → stand_for new change n ≡ stand_for old change n +ℤ more *ℤ change row
unfolding stand_for
stand_more old new change row zero more lt h = absurd (omega arith)
stand_more old new change row (suc n) more lt h = by (cases_eq row n) (λ below. stand_more old new change row n more below h)
  where
    by : (row ≡ n) ⊎ (row ≢ n) → (row < n → stand_for new change n ≡ stand_for old change n +ℤ more *ℤ change row) → stand_for new change n +ℤ new n *ℤ change n ≡ (stand_for old change n +ℤ old n *ℤ change n) +ℤ more *ℤ change row
    by (inl e) rest =
        let at : new n ≡ old n +ℤ more = subst (λ (k : ℕ). new k ≡ old k +ℤ more) e h.at in
        let last : new n *ℤ change n ≡ old n *ℤ change n +ℤ more *ℤ change row = ap (λ (z : ℤ). z *ℤ change n) at ∙ times_sum (old n) more (change n) ∙ ap (λ (k : ℕ). old n *ℤ change n +ℤ more *ℤ change k) (sym e) in
        ap (λ (z : ℤ). z +ℤ new n *ℤ change n) (stand_same old new change n (λ k below. h.others k (λ is. absurd (omega arith))))
        ∙ add_last (stand_for old change n) (new n *ℤ change n) (old n *ℤ change n) (more *ℤ change row) last
    by (inr other) rest =
        let below = rest (below_last other) in
        ap (λ (z : ℤ). stand_for new change n +ℤ z *ℤ change n) (h.others n (λ is. other (sym is)))
        ∙ add_before (stand_for new change n) (stand_for old change n) (old n *ℤ change n) (more *ℤ change row) below
      where
        below_last : row ≢ n → row < n
        below_last other = omega (arith, other)

pub size_more : (old new : ℕ → ℤ) (row n : ℕ) (more : ℤ) → row < n → IsMoreAt old new row more → size_of new n ≤ size_of old n + unsigned_abs more
unfolding size_of
size_more old new row zero more lt h = absurd (omega arith)
size_more old new row (suc n) more lt h = by (cases_eq row n) (λ below. size_more old new row n more below h)
  where
    by : (row ≡ n) ⊎ (row ≢ n) → (row < n → size_of new n ≤ size_of old n + unsigned_abs more) → size_of new n + unsigned_abs (new n) ≤ size_of old n + unsigned_abs (old n) + unsigned_abs more
    by (inl e) rest =
        let at : new n ≡ old n +ℤ more = subst (λ (k : ℕ). new k ≡ old k +ℤ more) e h.at in
        let last : unsigned_abs (new n) ≤ unsigned_abs (old n) + unsigned_abs more = subst (λ (z : ℤ). unsigned_abs z ≤ unsigned_abs (old n) + unsigned_abs more) (sym at) (abs_sum (old n) more) in
        let same = size_same old new n (λ k below. h.others k (λ is. absurd (omega arith))) in
        omega (arith, last, same)
    by (inr other) rest =
        let below = rest (below_last other) in
        let same : unsigned_abs (new n) ≡ unsigned_abs (old n) = ap unsigned_abs (h.others n (λ is. other (sym is))) in
        omega (arith, below, same)
      where
        below_last : row ≢ n → row < n
        below_last other = omega (arith, other)

-- a count is no larger than all
pub size_at : (count : ℕ → ℤ) (row n : ℕ) → row < n → unsigned_abs (count row) ≤ size_of count n
unfolding size_of
size_at count row zero lt = absurd (omega arith)
size_at count row (suc n) lt = by (cases_eq row n) (λ below. size_at count row n below)
  where
    by : (row ≡ n) ⊎ (row ≢ n) → (row < n → unsigned_abs (count row) ≤ size_of count n) → unsigned_abs (count row) ≤ size_of count n + unsigned_abs (count n)
    by (inl e) rest = let same : unsigned_abs (count row) ≡ unsigned_abs (count n) = ap (λ (k : ℕ). unsigned_abs (count k)) e in omega (arith, same)
    by (inr other) rest = let below = rest (omega (arith, other)) in omega (arith, below)

-- nor is that of fewer rows
pub size_up_to : (count : ℕ → ℤ) (m n : ℕ) → m ≤ n → size_of count m ≤ size_of count n
unfolding size_of
size_up_to count m zero le = let e : m ≡ zero = omega arith in subst (λ (k : ℕ). size_of count k ≤ size_of count zero) (sym e) (omega arith)
size_up_to count m (suc n) le = by (cases_eq m (suc n)) (λ below. size_up_to count m n below)
  where
    by : (m ≡ suc n) ⊎ (m ≢ suc n) → (m ≤ n → size_of count m ≤ size_of count n) → size_of count m ≤ size_of count n + unsigned_abs (count n)
    by (inl e) rest = subst (λ (k : ℕ). size_of count k ≤ size_of count n + unsigned_abs (count n)) (sym e) (omega arith)
    by (inr other) rest = let below = rest (omega (arith, other)) in omega (arith, below)

-- what small counts of small changes stand for is small
pub stand_small : (count change : ℕ → ℤ) (most n : ℕ) → ((k : ℕ) → unsigned_abs (change k) ≤ most) → unsigned_abs (stand_for count change n) ≤ size_of count n * most
unfolding stand_for size_of
stand_small count change most zero few = omega arith
stand_small count change most (suc n) few =
    let rest = stand_small count change most n few in
    let one = abs_sum (stand_for count change n) (count n *ℤ change n) in
    let product = unsigned_abs-mul (count n) (change n) in
    let last : unsigned_abs (count n) * unsigned_abs (change n) ≤ unsigned_abs (count n) * most = mul-le-mul (let same : unsigned_abs (count n) ≤ unsigned_abs (count n) = omega arith in same) (few n) in
    omega (arith, rest, one, product, last)

-- no counts stand for nothing
pub stand_none : (count change : ℕ → ℤ) (n : ℕ) → ((k : ℕ) → count k ≡ pos 0) → stand_for count change n ≡ pos 0
unfolding stand_for
stand_none count change zero none = refl
stand_none count change (suc n) none = λ i. stand_none count change n none i +ℤ none_times (count n) (change n) (none n) i

pub size_none : (count : ℕ → ℤ) (n : ℕ) → ((k : ℕ) → count k ≡ pos 0) → size_of count n ≡ 0
unfolding size_of
size_none count zero none = refl
size_none count (suc n) none = λ i. size_none count n none i + unsigned_abs (none n i)

-- a row more
pub stand_step : (count change : ℕ → ℤ) (n : ℕ) → stand_for count change (n + 1) ≡ stand_for count change n +ℤ count n *ℤ change n
unfolding stand_for
stand_step count change n = ap (λ (k : ℕ). stand_for count change k) (let e : n + 1 ≡ suc n = omega arith in e)

pub size_step : (count : ℕ → ℤ) (n : ℕ) → size_of count (n + 1) ≡ size_of count n + unsigned_abs (count n)
unfolding size_of
size_step count n = ap (λ (k : ℕ). size_of count k) (let e : n + 1 ≡ suc n = omega arith in e)

pub stand_start : (count change : ℕ → ℤ) → stand_for count change 0 ≡ pos 0
unfolding stand_for
stand_start count change = refl

-- the changes of the seconds from a row on are small
pub change_since-few : (clock : ℤ → ℤ) (rows : List Row) (day : ℤ) (row : ℕ) → IsNear clock → unsigned_abs (change_since clock rows day row) ≤ 446278
change_since-few clock rows day row near = within (seconds_since clock rows day row) (seconds_since clock rows (day -ℤ pos 1) row)
    (seconds_on-le clock day (start_of rows row) (pos (2 ^ 31)) near) (seconds_on-le clock (day -ℤ pos 1) (start_of rows row) (pos (2 ^ 31)) near)
  where
    within : (m n : ℕ) → m ≤ 446278 → n ≤ 446278 → unsigned_abs (pos m -ℤ pos n) ≤ 446278
    within m n h k = grind (arith, ints)

-- a count of a table that is set anew
pub set_more : (xs : List ℤ) (row : ℕ) (v more : ℤ) → row < length xs → v ≡ change_at xs row +ℤ more → IsMoreAt (change_at xs) (change_at (set xs row v)) row more
set_more xs row v more within is = record {
  at = get_or-set_at xs row row v (pos 0) refl within ∙ is;
  others = λ k other. get_or-set_other xs row k v (pos 0) other;
}

-- one more session that has whole each row from one up to another
pub record IsCounted (old new : ℕ → ℤ) (from to n : ℕ) : Type 0 where
  pub value : (change : ℕ → ℤ) → stand_for new change n ≡ (stand_for old change n +ℤ change from) -ℤ change to
  pub two : size_of new n ≤ size_of old n + 2

pub counted : (old mid new : ℕ → ℤ) (from to n : ℕ) → from < n → to < n → IsMoreAt old mid from (pos 1) → IsMoreAt mid new to (neg_ℤ (pos 1)) → IsCounted old new from to n
counted old mid new from to n from_in to_in up down = record {
  value = λ change. sum (stand_for old change n) (stand_for mid change n) (stand_for new change n) (change from) (change to) (stand_more old mid change from n (pos 1) from_in up) (stand_more mid new change to n (neg_ℤ (pos 1)) to_in down);
  two = let one = size_more old mid from n (pos 1) from_in up in let two = size_more mid new to n (neg_ℤ (pos 1)) to_in down in omega arith;
}
  where
    sum : (a b c x y : ℤ) → b ≡ a +ℤ pos 1 *ℤ x → c ≡ b +ℤ neg_ℤ (pos 1) *ℤ y → c ≡ (a +ℤ x) -ℤ y
    sum a b c x y e f = omega (arith, ints)

-- a count that is gone
pub size_gone : (old new : ℕ → ℤ) (row n : ℕ) → row < n → new row ≡ pos 0 → ((k : ℕ) → k ≢ row → new k ≡ old k) → size_of new n + unsigned_abs (old row) ≡ size_of old n
unfolding size_of
size_gone old new row zero lt none others = absurd (omega arith)
size_gone old new row (suc n) lt none others = by (cases_eq row n) (λ below. size_gone old new row n below none others)
  where
    by : (row ≡ n) ⊎ (row ≢ n) → (row < n → size_of new n + unsigned_abs (old row) ≡ size_of old n) → (size_of new n + unsigned_abs (new n)) + unsigned_abs (old row) ≡ size_of old n + unsigned_abs (old n)
    by (inl e) rest =
        let gone : unsigned_abs (new n) ≡ 0 = ap unsigned_abs (subst (λ (k : ℕ). new k ≡ pos 0) e none) in
        let was : unsigned_abs (old row) ≡ unsigned_abs (old n) = ap (λ (k : ℕ). unsigned_abs (old k)) e in
        let same = size_same old new n (λ k below. others k (λ is. absurd (omega arith))) in
        omega (arith, gone, was, same)
    by (inr other) rest =
        let below = rest (omega (arith, other)) in
        let same : unsigned_abs (new n) ≡ unsigned_abs (old n) = ap unsigned_abs (others n (λ is. other (sym is))) in
        omega (arith, below, same)

-- what a single count more stands for, and how large it makes all
pub stand_if : (old new change : ℕ → ℤ) (row n : ℕ) (b : Bool) (more : ℤ) → row < n → IsMoreAt old new row (cond b more (pos 0)) → stand_for new change n ≡ stand_for old change n +ℤ cond b (more *ℤ change row) (pos 0)
stand_if old new change row n b more lt h = stand_more old new change row n (cond b more (pos 0)) lt h ∙ ap (λ (z : ℤ). stand_for old change n +ℤ z) (by b)
  where
    by : (b : Bool) → cond b more (pos 0) *ℤ change row ≡ cond b (more *ℤ change row) (pos 0)
    by true = refl
    by false = none_times (pos 0) (change row) refl

pub size_if : (old new : ℕ → ℤ) (row n : ℕ) (b : Bool) (more : ℤ) → row < n → IsMoreAt old new row (cond b more (pos 0)) → size_of new n ≤ size_of old n + cond b (unsigned_abs more) 0
size_if old new row n b more lt h = subst (λ (m : ℕ). size_of new n ≤ size_of old n + m) (by b) (size_more old new row n (cond b more (pos 0)) lt h)
  where
    by : (b : Bool) → unsigned_abs (cond b more (pos 0)) ≡ cond b (unsigned_abs more) 0
    by true = refl
    by false = refl
