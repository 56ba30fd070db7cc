-- The rows of a clock, each added to the days of its users as often as their counts up to it say.
use Rattle.std.proofs.Common.{◌≡◌, ◌∙◌, ℕ, ◌+◌, ◌-◌, ◌*◌, ◌<◌, ◌≤◌, ◌^◌, ℤ, pos, neg_ℤ, ◌+ℤ◌, ◌*ℤ◌, ◌≤ℤ◌, Bool, true, false, cond, List, ◌∷◌, length, sym, ap, arith}
use Rattle.std.proofs.lemmas.Int.{ints}
use Rattle.std.specs.Prelude.{bytes_eq, unsigned_abs}
use Rattle.tally_clock.specs.declared.row.Row.{Row}
use Rattle.tally_sessions.specs.declared.connect.keys.DayUser.{DayUser}
use Rattle.tally_sessions.specs.declared.connect.keys.RowUser.{RowUser}
use Rattle.tally_sessions.specs.inside.Changes.{AreWithin, count_of, day_change, rows_ahead, told_of}
use Rattle.tally_sessions.specs.inside.Counts.{change_since, size_of, stand_for}
use Rattle.tally_sessions.specs.inside.Spans.{span_change}
use Rattle.tally_sessions.proofs.connect.CountLemmas.{change_since-few, stand_if, stand_none, stand_small}
use Rattle.tally_sessions.proofs.connect.UserCounts.{count_few, IsPopped, popped_at, popped_few, popped_in, popped_size, popped_within, rows_ahead-cons}
use Rattle.tally_sessions.proofs.connect.Weights.{none_times, times_of_sum, times_sum}
use Rattle.tally_sessions.proofs.days.ClockDays.{IsNear}

-- what the changes and the counts that are left say is what all say
pub record IsLeft (clock : ℤ → ℤ) (rows : List Row) (told : DayUser → ℤ) (changes : List (DayUser × ℤ)) (counts : List (RowUser × ℤ)) : Type 0 where
  pub within : AreWithin counts (length rows)
  pub small : (name : List ℕ) → size_of (count_of counts name) (length rows) ≤ 33554432
  pub value : (k : DayUser) → told_of clock rows changes counts k ≡ told k

bounds : (t s o : ℤ) → t +ℤ s ≡ o → unsigned_abs s ≤ 33554432 * 446278 → neg_ℤ (pos (2 ^ 60)) ≤ℤ o → o ≤ℤ pos (2 ^ 60) → (neg_ℤ (pos (2 ^ 61)) ≤ℤ t) × (t ≤ℤ pos (2 ^ 61))
bounds t s o is few low high = (omega (arith, ints, abs_low s few), omega (arith, ints, abs_high s few))
  where
    abs_low : (s : ℤ) → unsigned_abs s ≤ 33554432 * 446278 → neg_ℤ (pos (33554432 * 446278)) ≤ℤ s
    abs_low s few = grind (arith, ints)

    abs_high : (s : ℤ) → unsigned_abs s ≤ 33554432 * 446278 → s ≤ℤ pos (33554432 * 446278)
    abs_high s few = grind (arith, ints)

-- the changes are small enough for one more
pub left_bounds : (clock : ℤ → ℤ) (rows : List Row) (told : DayUser → ℤ) (changes : List (DayUser × ℤ)) (counts : List (RowUser × ℤ)) → IsNear clock → IsLeft clock rows told changes counts
    → ((k : DayUser) → neg_ℤ (pos (2 ^ 60)) ≤ℤ told k) → ((k : DayUser) → told k ≤ℤ pos (2 ^ 60)) → (k : DayUser) → (neg_ℤ (pos (2 ^ 61)) ≤ℤ day_change changes k) × (day_change changes k ≤ℤ pos (2 ^ 61))
left_bounds clock rows told changes counts near h low high k =
    let x = change_since clock rows k.day in
    let size = h.small k.user in
    let stand = stand_small (count_of counts k.user) x 446278 (length rows) (λ row. change_since-few clock rows k.day row near) in
    bounds (day_change changes k) (stand_for (count_of counts k.user) x (length rows)) (told k) (h.value k) (omega (arith, stand, size)) (low k) (high k)

neg_times : (c x : ℤ) → neg_ℤ c *ℤ x ≡ neg_ℤ (c *ℤ x)
neg_times c x = opposite (neg_ℤ c *ℤ x) (c *ℤ x) (sym (times_sum (neg_ℤ c) c x) ∙ none_times (neg_ℤ c +ℤ c) x (omega (arith, ints)))
  where
    opposite : (a b : ℤ) → a +ℤ b ≡ pos 0 → a ≡ neg_ℤ b
    opposite a b e = omega (arith, ints)

step_value : (t t' s m s' v x d y vx vd vy : ℤ) (p : Bool) → t' ≡ t +ℤ cond p vd (pos 0) → m ≡ s +ℤ cond p (neg_ℤ vx) (pos 0) → s' ≡ m +ℤ cond p vy (pos 0) → vx ≡ vd +ℤ vy → t' +ℤ s' ≡ t +ℤ s
step_value t t' s m s' v x d y vx vd vy true added popped counted parts = omega (arith, ints)
step_value t t' s m s' v x d y vx vd vy false added popped counted parts = omega (arith, ints)

module _ (clock : ℤ → ℤ) (rows : List Row) (told : DayUser → ℤ) (changes : List (DayUser × ℤ)) (counts popped : List (RowUser × ℤ)) (at : RowUser) (v : ℤ) (h : IsLeft clock rows told changes counts) (out : IsPopped counts popped at v) where
  abbrev n : ℕ
  n = length rows

  pub row_in : at.row < n
  row_in = popped_in counts popped at v out n h.within

  pub times_few : unsigned_abs v ≤ 33554432
  times_few = popped_few counts popped at v out n 33554432 h.within h.small

  smaller : (name : List ℕ) → size_of (count_of popped name) n ≤ 33554432
  smaller name = let size = popped_size counts popped at v out name n row_in in let was = h.small name in omega (arith, size, was)

  pub popped_counts_few : (name : List ℕ) (row : ℕ) → unsigned_abs (count_of popped name row) ≤ 33554432
  popped_counts_few name row = count_few popped name n 33554432 (popped_within counts popped at v out n h.within) (smaller name) row

  popped_stands : (k : DayUser) → stand_for (count_of popped k.user) (change_since clock rows k.day) n
      ≡ stand_for (count_of counts k.user) (change_since clock rows k.day) n +ℤ cond (bytes_eq at.user k.user) (neg_ℤ (v *ℤ change_since clock rows k.day at.row)) (pos 0)
  popped_stands k =
      stand_if (count_of counts k.user) (count_of popped k.user) (change_since clock rows k.day) at.row n (bytes_eq at.user k.user) (neg_ℤ v) row_in (popped_at counts popped at v out k.user)
      ∙ ap (λ (z : ℤ). stand_for (count_of counts k.user) (change_since clock rows k.day) n +ℤ cond (bytes_eq at.user k.user) z (pos 0)) (neg_times v (change_since clock rows k.day at.row))

  -- the row of the least key is added, and the next begins with as much
  pub left_step : (new : List (DayUser × ℤ)) (last : List (RowUser × ℤ)) (b e : ℤ)
      → ((day : ℤ) → change_since clock rows day at.row ≡ span_change day b e +ℤ change_since clock rows day (at.row + 1))
      → ((k : DayUser) → day_change new k ≡ day_change changes k +ℤ cond (bytes_eq at.user k.user) (v *ℤ span_change k.day b e) (pos 0))
      → ((k : DayUser) → stand_for (count_of last k.user) (change_since clock rows k.day) n
      ≡ stand_for (count_of popped k.user) (change_since clock rows k.day) n +ℤ cond (bytes_eq at.user k.user) (v *ℤ change_since clock rows k.day (at.row + 1)) (pos 0))
      → ((name : List ℕ) → size_of (count_of last name) n ≤ size_of (count_of popped name) n + cond (bytes_eq at.user name) (unsigned_abs v) 0)
      → (AreWithin popped n → AreWithin last n) → IsLeft clock rows told new last
  left_step new last b e parts added counted sizes within = record {
    within = within (popped_within counts popped at v out n h.within);
    small = λ name. let size = popped_size counts popped at v out name n row_in in let was = h.small name in let more = sizes name in omega (arith, size, was, more);
    value = λ k.
        let x = change_since clock rows k.day in
        step_value (day_change changes k) (day_change new k) (stand_for (count_of counts k.user) x n) (stand_for (count_of popped k.user) x n) (stand_for (count_of last k.user) x n)
        v (x at.row) (span_change k.day b e) (x (at.row + 1)) (v *ℤ x at.row) (v *ℤ span_change k.day b e) (v *ℤ x (at.row + 1)) (bytes_eq at.user k.user)
        (added k) (popped_stands k) (counted k) (ap (λ (z : ℤ). v *ℤ z) (parts k.day) ∙ times_of_sum v (span_change k.day b e) (x (at.row + 1)))
        ∙ h.value k;
  }

  none_value : (t s m z : ℤ) (p : Bool) → m ≡ s +ℤ cond p (neg_ℤ z) (pos 0) → z ≡ pos 0 → t +ℤ m ≡ t +ℤ s
  none_value t s m z true is none = omega (arith, ints)
  none_value t s m z false is none = omega (arith, ints)

  -- a count of 0 may be left out
  pub left_past : v ≡ pos 0 → IsLeft clock rows told changes popped
  left_past none = record {
    within = popped_within counts popped at v out n h.within;
    small = smaller;
    value = λ k.
        let x = change_since clock rows k.day in
        none_value (day_change changes k) (stand_for (count_of counts k.user) x n) (stand_for (count_of popped k.user) x n) (v *ℤ x at.row) (bytes_eq at.user k.user) (popped_stands k) (none_times v (x at.row) none)
        ∙ h.value k;
  }

  -- and fewer rows are ahead
  pub left_nearer : (last : List (RowUser × ℤ)) → counts ≡ (at, v) ∷ popped → rows_ahead n last ≤ rows_ahead n popped + (n - (at.row + 1)) → rows_ahead n last < rows_ahead n counts
  left_nearer last is le =
      let all = ap (rows_ahead n) is ∙ rows_ahead-cons n (at, v) popped in
      let lt = row_in in
      omega (arith, all, le, lt)

  pub past_nearer : counts ≡ (at, v) ∷ popped → rows_ahead n popped < rows_ahead n counts
  past_nearer is =
      let all = ap (rows_ahead n) is ∙ rows_ahead-cons n (at, v) popped in
      let lt = row_in in
      omega (arith, all, lt)

-- with no counts left the changes are all
pub left_end : (clock : ℤ → ℤ) (rows : List Row) (told : DayUser → ℤ) (changes : List (DayUser × ℤ)) (counts : List (RowUser × ℤ)) → IsLeft clock rows told changes counts → ((name : List ℕ) (row : ℕ) → count_of counts name row ≡ pos 0)
    → (k : DayUser) → day_change changes k ≡ told k
left_end clock rows told changes counts h none k =
    let x = change_since clock rows k.day in
    let stand = stand_none (count_of counts k.user) x (length rows) (none k.user) in
    end_value (day_change changes k) (stand_for (count_of counts k.user) x (length rows)) (told k) (h.value k) stand
  where
    end_value : (t s o : ℤ) → t +ℤ s ≡ o → s ≡ pos 0 → t ≡ o
    end_value t s o is none = omega (arith, ints)
