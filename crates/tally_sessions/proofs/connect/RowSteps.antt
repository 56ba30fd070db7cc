-- One key out of the changes, and its row.
use Rattle.std.proofs.Common.{◌≡◌, inl, inr, ℕ, ◌+◌, ◌<◌, ◌≤◌, ◌^◌, Bool, true, false, cond, List, [], ◌∷◌, ◌++◌, ℤ, pos, neg_ℤ, ◌+ℤ◌, ◌-ℤ◌, ◌≤ℤ◌, Option, Some, None, unwrap_or, refl, sym, ap, subst, ◌∙◌, arith}
use Rattle.std.proofs.lemmas.Int.{ints}
use Rattle.std.specs.Cmp.{int_cmp_is}
use Rattle.std.specs.Cmp.Lexicographic.{slice_cmp}
use Rattle.std.specs.Map.{lookup}
use Rattle.std.specs.Option.{is_some, IsSome}
use Rattle.std.specs.Ordering.{int_cmp, is_eq, is_gt, nat_cmp, ordering_then}
use Rattle.std.specs.declared.cmp.Ordering.{Ordering}
use Rattle.std.specs.declared.cmp.Ordering.TheVariants.{Less, Equal, Greater}
use Rattle.tally_sessions.specs.declared.connect.keys.DayUser.{DayUser}
use Rattle.tally_sessions.specs.declared.times.DayUserTime.{DayUserTime}
use Rattle.tally_sessions.specs.inside.Changes.{day_change, days_ahead, days_from}
use Rattle.tally_sessions.specs.Days.{IsDay}
use Rattle.tally_sessions.specs.inside.Sums.{day_user_cmp}
use Rattle.tally_sessions.proofs.connect.DaySpread.{day_after, day_before, first_is_all, IsSpread, none_left, same_or_not, spread_high, spread_low, spread_on, spread_past}
use Rattle.tally_sessions.proofs.connect.UserChanges.{days_ahead-cons, walk_nearer}
use Rattle.tally_sessions.proofs.connect.RowOrder.{AreBefore, AreRows, before_later, before_push, given_by, given_push, key_of, no_rows, none_given, rows_push}

-- the change that a table has at a key
abbrev pub found_at : List (DayUser × ℤ) → DayUser → Option ℤ
found_at changes k = lookup (λ j. is_eq (day_user_cmp k j)) changes

-- the rows so far and the changes that are left give all
pub record IsWalk (all : DayUser → ℕ) (rows : List DayUserTime) (changes : List (DayUser × ℤ)) : Type 0 where
  pub spread : IsSpread all (given_by rows) (day_change changes)
  pub ordered : AreRows rows
  pub before : (k : DayUser) → IsSome (found_at changes k) → AreBefore rows k

-- the least key is out
pub record IsPopped (old popped : List (DayUser × ℤ)) (at : DayUser) (v : ℤ) : Type 0 where
  pub value : found_at old at ≡ Some v
  pub least : (k : DayUser) → IsSome (found_at old k) → is_gt (day_user_cmp at k) ≡ false
  pub updates : (k : DayUser) → found_at popped k ≡ cond (is_eq (day_user_cmp at k)) None (found_at old k)

earlier_day : (x y : ℤ) → (x +ℤ pos 1) ≤ℤ y → int_cmp x y ≡ Less
earlier_day x y lt = sym (int_cmp_is x y Less (omega (arith, ints)))

later_day : (x y : ℤ) → (y +ℤ pos 1) ≤ℤ x → int_cmp x y ≡ Greater
later_day x y lt = sym (int_cmp_is x y Greater (omega (arith, ints)))

less_if : (r : Ordering) → is_gt r ≡ false → is_eq r ≡ false → r ≡ Less
less_if Less g e = refl
less_if Equal g e = absurd (cc)
less_if Greater g e = absurd (cc)

next_is_later : (at : DayUser) → day_user_cmp at (day_after at) ≡ Less
next_is_later at = ap (λ r. ordering_then r (slice_cmp nat_cmp at.user at.user)) (earlier_day at.day (at.day +ℤ pos 1) (omega (arith, ints)))

module _ (all : DayUser → ℕ) (rows : List DayUserTime) (old popped : List (DayUser × ℤ)) (at : DayUser) (v : ℤ) (h : IsWalk all rows old) (out : IsPopped old popped at v) where
  there : IsSome (found_at old at)
  there = ap is_some out.value

  rows_before : AreBefore rows at
  rows_before = h.before at there

  unchanged : (j : DayUser) → j.user ≡ at.user → (j.day +ℤ pos 1) ≤ℤ at.day → day_change old j ≡ pos 0
  unchanged j same lt = by (found_at old j) refl
    where
      greater : is_gt (day_user_cmp at j) ≡ true
      greater = ap (λ r. is_gt (ordering_then r (slice_cmp nat_cmp at.user j.user))) (later_day at.day j.day lt)

      by : (o : Option ℤ) → found_at old j ≡ o → unwrap_or o (pos 0) ≡ pos 0
      by None e = refl
      by (Some x) e = absurd (let no : true ≡ false = sym greater ∙ out.least j (ap is_some e) in cc)

  -- the least key's change is all that its user has on the day
  pub change_is_all : ((j : DayUser) → 0 < all j → IsDay j.day) → v ≡ pos (all at)
  change_is_all days =
      sym (ap (λ o. unwrap_or o (pos 0)) out.value)
      ∙ first_is_all all (given_by rows) (day_change old) at h.spread (none_left all (given_by rows) (day_change old) at days h.spread unchanged) (none_given rows at rows_before)

  change_popped : (k : DayUser) → day_change popped k ≡ cond (is_eq (day_user_cmp at k)) (pos 0) (day_change old k)
  change_popped k = ap (λ o. unwrap_or o (pos 0)) (out.updates k) ∙ by (is_eq (day_user_cmp at k))
    where
      by : (b : Bool) → unwrap_or (cond b None (found_at old k)) (pos 0) ≡ cond b (pos 0) (day_change old k)
      by true = refl
      by false = refl

  -- a key that is left is a later one
  left_is_later : (k : DayUser) → IsSome (found_at popped k) → IsSome (found_at old k) × (day_user_cmp at k ≡ Less)
  left_is_later k some = by (is_eq (day_user_cmp at k)) refl (subst IsSome (out.updates k) some)
    where
      by : (b : Bool) → is_eq (day_user_cmp at k) ≡ b → IsSome (cond b None (found_at old k)) → IsSome (found_at old k) × (day_user_cmp at k ≡ Less)
      by true e some = absurd (cc)
      by false e some = (some, less_if (day_user_cmp at k) (out.least k some) e)

  -- a key without time leaves no row
  pub walk_past : v ≡ pos 0 → IsWalk all rows popped
  walk_past none = record {
    spread = spread_past all (given_by rows) (day_change old) (day_change popped) at h.spread (ap (λ o. unwrap_or o (pos 0)) out.value ∙ none) change_popped;
    ordered = h.ordered;
    before = λ k some. h.before k (left_is_later k some).0;
  }

  -- the changes that are left are small
  pub popped_low : (k : DayUser) → ((j : DayUser) → all j ≤ 2 ^ 44) → neg_ℤ (pos (2 ^ 61)) ≤ℤ day_change popped k
  popped_low k few = subst (λ z. neg_ℤ (pos (2 ^ 61)) ≤ℤ z) (sym (change_popped k)) (by (is_eq (day_user_cmp at k)) (day_change old k) (spread_low all (given_by rows) (day_change old) k h.spread few))
    where
      by : (b : Bool) (z : ℤ) → neg_ℤ (pos (2 ^ 44)) ≤ℤ z → neg_ℤ (pos (2 ^ 61)) ≤ℤ cond b (pos 0) z
      by true z low = omega (arith, ints)
      by false z low = omega (arith, ints)

  pub popped_high : (k : DayUser) → ((j : DayUser) → all j ≤ 2 ^ 44) → day_change popped k ≤ℤ pos (2 ^ 61)
  popped_high k few = subst (λ z. z ≤ℤ pos (2 ^ 61)) (sym (change_popped k)) (by (is_eq (day_user_cmp at k)) (day_change old k) (spread_high all (given_by rows) (day_change old) k h.spread few))
    where
      by : (b : Bool) (z : ℤ) → z ≤ℤ pos (2 ^ 44) → cond b (pos 0) z ≤ℤ pos (2 ^ 61)
      by true z high = omega (arith, ints)
      by false z high = omega (arith, ints)

  -- a row more, and the next day of its user begins with as much
  pub walk_on : (row : DayUserTime) (last : List (DayUser × ℤ)) (next : DayUser) (w : ℤ) → ((j : DayUser) → 0 < all j → IsDay j.day) → key_of row ≡ at → row.seconds ≡ all at → 0 < all at → next ≡ day_after at → w ≡ pos (all at)
      → ((k : DayUser) → day_change last k ≡ day_change popped k +ℤ cond (is_eq (day_user_cmp next k)) w (pos 0))
      → ((k : DayUser) → is_eq (day_user_cmp next k) ≡ false → found_at last k ≡ found_at popped k) → IsWalk all (rows ++ row ∷ []) last
  walk_on row last next w days key seconds some next-is w-is added others = record {
    spread = spread_on all (given_by rows) (given_by (rows ++ row ∷ [])) (day_change old) (day_change popped) (day_change last) at w h.spread
        (none_left all (given_by rows) (day_change old) at days h.spread unchanged) (none_given rows at rows_before) w-is given change_popped
        (λ k. added k ∙ ap (λ j. day_change popped k +ℤ cond (is_eq (day_user_cmp j k)) w (pos 0)) next-is);
    ordered = rows_push rows row h.ordered row_last (subst (λ n. 0 < n) (sym seconds) some);
    before = λ k found. elim (same_or_not next k) [
      | inl e ↦ before_at_next k (sym next-is ∙ e)
      | inr other ↦ before_left k (left_is_later k (subst IsSome (others k other) found))
    ];
  }
    where
      row_last : AreBefore rows (key_of row)
      row_last = subst (AreBefore rows) (sym key) rows_before

      given : (k : DayUser) → given_by (rows ++ row ∷ []) k ≡ given_by rows k + cond (is_eq (day_user_cmp at k)) (all at) 0
      given k = given_push rows row k row_last ∙ (λ i. given_by rows k + cond (is_eq (day_user_cmp (key i) k)) (seconds i) 0)

      before_at_next : (k : DayUser) → day_after at ≡ k → AreBefore (rows ++ row ∷ []) k
      before_at_next k e =
          let less : day_user_cmp at k ≡ Less = subst (λ j. day_user_cmp at j ≡ Less) e (next_is_later at) in
          before_push rows row k (before_later rows at k rows_before less) (ap (λ j. day_user_cmp j k) key ∙ less)

      before_left : (k : DayUser) → IsSome (found_at old k) × (day_user_cmp at k ≡ Less) → AreBefore (rows ++ row ∷ []) k
      before_left k later = before_push rows row k (h.before k later.0) (ap (λ j. day_user_cmp j k) key ∙ later.1)

-- the days ahead are fewer, with one key gone on to its next day
pub ahead_less : (old popped last : List (DayUser × ℤ)) (at : DayUser) (v next : ℤ) → old ≡ (at, v) ∷ popped → at.day ≤ℤ pos 24857 → next ≡ at.day +ℤ pos 1 → days_ahead last ≤ days_ahead popped + days_from next → days_ahead last < days_ahead old
ahead_less old popped last at v next is few next-is le =
    let all = ap days_ahead is ∙ days_ahead-cons (at, v) popped in
    let nearer = walk_nearer at.day next next-is few in
    omega (arith, all, nearer, le)

-- no rows, and all changes
pub walk_start : (all : DayUser → ℕ) (rows : List DayUserTime) (changes : List (DayUser × ℤ)) → rows ≡ [] → ((k : DayUser) → day_change changes k ≡ pos (all k) -ℤ pos (all (day_before k))) → IsWalk all rows changes
walk_start all rows changes none is = subst (λ rs. IsWalk all rs changes) (sym none) (record {
  spread = record { within = λ k. omega arith; left = λ k. is k ∙ from_all (all k) (all (day_before k)) };
  ordered = no_rows;
  before = λ k some. tt;
})
  where
    from_all : (m n : ℕ) → pos m -ℤ pos n ≡ (pos m -ℤ pos 0) -ℤ (pos n -ℤ pos 0)
    from_all m n = omega (arith, ints)
