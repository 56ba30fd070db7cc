-- What the rows have not given yet of users' seconds, while their days are gone through in order.
use Rattle.std.proofs.Common.{◌≡◌, ◌≢◌, ◌⊎◌, inl, inr, ℕ, zero, suc, ◌+◌, ◌<◌, ◌≤◌, ◌^◌, Bool, true, false, cond, ℤ, pos, neg_ℤ, ◌+ℤ◌, ◌-ℤ◌, ◌≤ℤ◌, refl, sym, ap, subst, ◌∙◌, arith}
use Rattle.std.proofs.lemmas.Bool.{cases_eq}
use Rattle.std.proofs.lemmas.Cmp.{tied_itself}
use Rattle.std.proofs.lemmas.Int.{ints}
use Rattle.std.specs.Cmp.{Equal-is}
use Rattle.std.specs.Int.{int_max}
use Rattle.std.specs.Ordering.{is_eq}
use Rattle.std.specs.Prelude.{unsigned_abs}
use Rattle.tally_sessions.specs.declared.connect.keys.DayUser.{DayUser}
use Rattle.tally_sessions.specs.Days.{IsDay}
use Rattle.tally_sessions.specs.inside.Sums.{day_user_cmp}
use Rattle.tally_sessions.proofs.days.SpanLemmas.{reach}
use Rattle.tally_sessions.proofs.connect.DayUsers.{day_user_total, same_day_user}

abbrev pub day_before : DayUser → DayUser
day_before k = record { day = k.day -ℤ pos 1; user = k.user }

abbrev pub day_after : DayUser → DayUser
day_after k = record { day = k.day +ℤ pos 1; user = k.user }

-- the seconds of a user on a day that no row gives yet
abbrev pub left_of : (DayUser → ℕ) → (DayUser → ℕ) → DayUser → ℤ
left_of all given k = pos (all k) -ℤ pos (given k)

-- the rows give no more than all, and the changes are those of what is left
pub record IsSpread (all given : DayUser → ℕ) (change : DayUser → ℤ) : Type 0 where
  pub within : (k : DayUser) → given k ≤ all k
  pub left : (k : DayUser) → change k ≡ left_of all given k -ℤ left_of all given (day_before k)

pub tie : (a b : DayUser) → a ≡ b → is_eq (day_user_cmp a b) ≡ true
tie a b same = subst (λ k. is_eq (day_user_cmp a k) ≡ true) same (ap is_eq (tied_itself day_user_total a))

pub differ : (a b : DayUser) → ((a ≡ b) → ⊥) → is_eq (day_user_cmp a b) ≡ false
differ a b other = by (is_eq (day_user_cmp a b)) refl
  where
    by : (t : Bool) → is_eq (day_user_cmp a b) ≡ t → is_eq (day_user_cmp a b) ≡ false
    by true e = absurd (other (same_day_user a b ((Equal-is (day_user_cmp a b)).0 e)))
    by false e = e

pub same_or_not : (a b : DayUser) → (a ≡ b) ⊎ (is_eq (day_user_cmp a b) ≡ false)
same_or_not a b = by (is_eq (day_user_cmp a b)) refl
  where
    by : (t : Bool) → is_eq (day_user_cmp a b) ≡ t → (a ≡ b) ⊎ (is_eq (day_user_cmp a b) ≡ false)
    by true e = inl (same_day_user a b ((Equal-is (day_user_cmp a b)).0 e))
    by false e = inr e

apart : (x y : ℤ) → (x +ℤ pos 1) ≤ℤ y → (x ≡ y) → ⊥
apart x y lt e = absurd (omega (arith, ints))

next_is_apart : (k : DayUser) → (day_after k ≡ k) → ⊥
next_is_apart k same = apart k.day (k.day +ℤ pos 1) (omega (arith, ints)) (sym (ap (λ (j : DayUser). j.day) same))

past_is_apart : (k : DayUser) → (k ≡ day_before k) → ⊥
past_is_apart k same = apart (k.day -ℤ pos 1) k.day (omega (arith, ints)) (sym (ap (λ (j : DayUser). j.day) same))

next_of_past : (k : DayUser) → day_after (day_before k) ≡ k
next_of_past k = let at : ℤ → DayUser = λ d. record { day = d; user = k.user } in ap at (same k.day)
  where
    same : (d : ℤ) → (d -ℤ pos 1) +ℤ pos 1 ≡ d
    same d = omega (arith, ints)

past_of_next : (k : DayUser) → day_before (day_after k) ≡ k
past_of_next k = let at : ℤ → DayUser = λ d. record { day = d; user = k.user } in ap at (same k.day)
  where
    same : (d : ℤ) → (d +ℤ pos 1) -ℤ pos 1 ≡ d
    same d = omega (arith, ints)

-- what begins as nothing and does not change up to a day is nothing
still_none : (f : ℤ → ℤ) (top : ℤ) → ((d : ℤ) → (d +ℤ pos 1) ≤ℤ neg_ℤ (pos 24858) → f d ≡ pos 0) → ((d : ℤ) → (d +ℤ pos 1) ≤ℤ top → f d ≡ f (d -ℤ pos 1)) → (d : ℤ) → (d +ℤ pos 1) ≤ℤ top → f d ≡ pos 0
still_none f top none same d le = by_count (unsigned_abs (int_max (d +ℤ pos 24859) (pos 0))) d (let far = reach (d +ℤ pos 24859) in omega (arith, ints)) le
  where
    by_count : (n : ℕ) (z : ℤ) → z ≤ℤ (neg_ℤ (pos 24859) +ℤ pos n) → (z +ℤ pos 1) ≤ℤ top → f z ≡ pos 0
    by_count zero z near below = none z (omega (arith, ints))
    by_count (suc n) z near below = same z below ∙ by_count n (z -ℤ pos 1) (omega (arith, ints)) (omega (arith, ints))

none_of_none : (all given : ℕ) → all ≡ 0 → given ≤ all → pos all -ℤ pos given ≡ pos 0
none_of_none all given none le = omega (arith, ints)

same_if_unchanged : (x y change : ℤ) → change ≡ x -ℤ y → change ≡ pos 0 → x ≡ y
same_if_unchanged x y change is none = omega (arith, ints)

-- before the first key that changes, nothing is left
pub none_left : (all given : DayUser → ℕ) (change : DayUser → ℤ) (k : DayUser) → ((j : DayUser) → 0 < all j → IsDay j.day) → IsSpread all given change
    → ((j : DayUser) → j.user ≡ k.user → (j.day +ℤ pos 1) ≤ℤ k.day → change j ≡ pos 0) → left_of all given (day_before k) ≡ pos 0
none_left all given change k days h unchanged =
    still_none (λ (d : ℤ). left_of all given (record { day = d; user = k.user })) k.day none
    (λ d le. same_if_unchanged _ _ _ (h.left (record { day = d; user = k.user })) (unchanged (record { day = d; user = k.user }) refl le))
    (k.day -ℤ pos 1) (omega (arith, ints))
  where
    none : (d : ℤ) → (d +ℤ pos 1) ≤ℤ neg_ℤ (pos 24858) → left_of all given (record { day = d; user = k.user }) ≡ pos 0
    none d le = none_of_none _ _ (by (cases_eq (all (record { day = d; user = k.user })) 0)) (h.within (record { day = d; user = k.user }))
      where
        by : (all (record { day = d; user = k.user }) ≡ 0) ⊎ (all (record { day = d; user = k.user }) ≢ 0) → all (record { day = d; user = k.user }) ≡ 0
        by (inl is) = is
        by (inr some) = absurd (let day = days (record { day = d; user = k.user }) (omega (arith, some)) in let low = day.low in omega (arith, ints))

all_is : (x change : ℤ) (all given : ℕ) → change ≡ (pos all -ℤ pos given) -ℤ x → x ≡ pos 0 → given ≡ 0 → change ≡ pos all
all_is x change all given is none new = omega (arith, ints)

-- the first change is all that its user has on the day
pub first_is_all : (all given : DayUser → ℕ) (change : DayUser → ℤ) (k : DayUser) → IsSpread all given change → left_of all given (day_before k) ≡ pos 0 → given k ≡ 0 → change k ≡ pos (all k)
first_is_all all given change k h none new = all_is _ _ (all k) (given k) (h.left k) none new

-- a change of 0 may be taken out
pub spread_past : (all given : DayUser → ℕ) (change next : DayUser → ℤ) (at : DayUser) → IsSpread all given change → change at ≡ pos 0 → ((k : DayUser) → next k ≡ cond (is_eq (day_user_cmp at k)) (pos 0) (change k)) → IsSpread all given next
spread_past all given change next at h none is = record { within = h.within; left = λ k. same k ∙ h.left k }
  where
    same : (k : DayUser) → next k ≡ change k
    same k = elim (same_or_not at k) [
      | inl e ↦ is k ∙ ap (λ b. cond b (pos 0) (change k)) (tie at k e) ∙ sym (ap change (sym e) ∙ none)
      | inr other ↦ is k ∙ ap (λ b. cond b (pos 0) (change k)) other
    ]

more_within : (given all n : ℕ) → given ≡ 0 → n ≡ all → given + n ≤ all
more_within given all n new is = omega arith

gone : (all given given' x x' : ℕ) → given ≡ 0 → given' ≡ given + all → pos x -ℤ pos x' ≡ pos 0 → pos 0 ≡ (pos all -ℤ pos given') -ℤ (pos x -ℤ pos x')
gone all given given' x x' new is none = omega (arith, ints)

moved_on : (change v : ℤ) (x x' all given given' : ℕ) → change ≡ (pos x -ℤ pos x') -ℤ (pos all -ℤ pos given) → given ≡ 0 → given' ≡ given + all → v ≡ pos all → change +ℤ v ≡ (pos x -ℤ pos x') -ℤ (pos all -ℤ pos given')
moved_on change v x x' all given given' is new is' v-is = omega (arith, ints)

nothing_more : (z : ℤ) → z +ℤ pos 0 ≡ z
nothing_more z = omega (arith, ints)

nothing_given : (n : ℕ) → n + 0 ≡ n
nothing_given n = omega arith

-- the row of the first key is given, and the next day of its user begins with as much
pub spread_on : (all given given' : DayUser → ℕ) (change next last : DayUser → ℤ) (at : DayUser) (v : ℤ) → IsSpread all given change → left_of all given (day_before at) ≡ pos 0 → given at ≡ 0 → v ≡ pos (all at)
    → ((k : DayUser) → given' k ≡ given k + cond (is_eq (day_user_cmp at k)) (all at) 0)
    → ((k : DayUser) → next k ≡ cond (is_eq (day_user_cmp at k)) (pos 0) (change k))
    → ((k : DayUser) → last k ≡ next k +ℤ cond (is_eq (day_user_cmp (day_after at) k)) v (pos 0)) → IsSpread all given' last
spread_on all given given' change next last at v h none new v-is rows popped pushed = record {
  within = λ k. elim (same_or_not at k) [
    | inl e ↦ subst (λ j. given' j ≤ all j) e (subst (λ n. n ≤ all at) (sym given-at) (more_within (given at) (all at) (all at) new refl))
    | inr other ↦ subst (λ n. n ≤ all k) (sym (kept k other)) (h.within k)
  ];
  left = λ k. elim (same_or_not at k) [
    | inl e ↦ subst (λ j. last j ≡ left_of all given' j -ℤ left_of all given' (day_before j)) e at_first
    | inr other ↦ elim (same_or_not (day_after at) k) [
      | inl e ↦ subst (λ j. last j ≡ left_of all given' j -ℤ left_of all given' (day_before j)) e at_next
      | inr away ↦ elsewhere k other away
    ]
  ];
}
  where
    given-at : given' at ≡ given at + all at
    given-at = rows at ∙ ap (λ b. given at + cond b (all at) 0) (tie at at refl)

    kept : (k : DayUser) → is_eq (day_user_cmp at k) ≡ false → given' k ≡ given k
    kept k other = rows k ∙ ap (λ b. given k + cond b (all at) 0) other ∙ nothing_given (given k)

    at_first : last at ≡ left_of all given' at -ℤ left_of all given' (day_before at)
    at_first =
        pushed at ∙ (λ i. popped at i +ℤ cond (differ (day_after at) at (next_is_apart at) i) v (pos 0)) ∙ ap (λ b. cond b (pos 0) (change at) +ℤ pos 0) (tie at at refl)
        ∙ gone (all at) (given at) (given' at) (all (day_before at)) (given (day_before at)) new given-at none
        ∙ ap (λ n. left_of all given' at -ℤ (pos (all (day_before at)) -ℤ pos n)) (sym (kept (day_before at) (differ at (day_before at) (past_is_apart at))))

    at_next : last (day_after at) ≡ left_of all given' (day_after at) -ℤ left_of all given' (day_before (day_after at))
    at_next =
        let past = past_of_next at in
        let apart_from = differ at (day_after at) (λ e. next_is_apart at (sym e)) in
        pushed (day_after at) ∙ (λ i. popped (day_after at) i +ℤ cond (tie (day_after at) (day_after at) refl i) v (pos 0)) ∙ ap (λ b. cond b (pos 0) (change (day_after at)) +ℤ v) apart_from
        ∙ moved_on (change (day_after at)) v (all (day_after at)) (given (day_after at)) (all at) (given at) (given' at)
        (h.left (day_after at) ∙ ap (λ j. left_of all given (day_after at) -ℤ left_of all given j) past) new given-at v-is
        ∙ (λ i. (pos (all (day_after at)) -ℤ pos (sym (kept (day_after at) apart_from) i)) -ℤ left_of all given' (sym past i))

    elsewhere : (k : DayUser) → is_eq (day_user_cmp at k) ≡ false → is_eq (day_user_cmp (day_after at) k) ≡ false → last k ≡ left_of all given' k -ℤ left_of all given' (day_before k)
    elsewhere k other away =
        let past = differ at (day_before k) (λ e. absurd (let no : true ≡ false = sym (tie (day_after at) k (ap day_after e ∙ next_of_past k)) ∙ away in cc)) in
        pushed k ∙ (λ i. popped k i +ℤ cond (away i) v (pos 0)) ∙ ap (λ b. cond b (pos 0) (change k) +ℤ pos 0) other ∙ nothing_more (change k) ∙ h.left k
        ∙ (λ i. (pos (all k) -ℤ pos (sym (kept k other) i)) -ℤ (pos (all (day_before k)) -ℤ pos (sym (kept (day_before k) past) i)))

-- nothing changes, so that nothing is left
pub spread_end : (all given : DayUser → ℕ) (change : DayUser → ℤ) → ((j : DayUser) → 0 < all j → IsDay j.day) → IsSpread all given change → ((k : DayUser) → change k ≡ pos 0) → (k : DayUser) → given k ≡ all k
spread_end all given change days h unchanged k =
    equal (all k) (given k) _ (change k) (none_left all given change k days h (λ j same le. unchanged j)) (h.left k) (unchanged k)
  where
    equal : (x y : ℕ) (z c : ℤ) → z ≡ pos 0 → c ≡ (pos x -ℤ pos y) -ℤ z → c ≡ pos 0 → y ≡ x
    equal x y z c none is nothing = omega (arith, ints)

-- what is left is little, and so are its changes
pub spread_low : (all given : DayUser → ℕ) (change : DayUser → ℤ) (k : DayUser) → IsSpread all given change → ((j : DayUser) → all j ≤ 2 ^ 44) → neg_ℤ (pos (2 ^ 44)) ≤ℤ change k
spread_low all given change k h few = low _ _ (all (day_before k)) _ _ (h.left k) (h.within k) (few (day_before k))
  where
    low : (x y z w : ℕ) (c : ℤ) → c ≡ (pos x -ℤ pos y) -ℤ (pos z -ℤ pos w) → y ≤ x → z ≤ 2 ^ 44 → neg_ℤ (pos (2 ^ 44)) ≤ℤ c
    low x y z w c is le few = omega (arith, ints)

pub spread_high : (all given : DayUser → ℕ) (change : DayUser → ℤ) (k : DayUser) → IsSpread all given change → ((j : DayUser) → all j ≤ 2 ^ 44) → change k ≤ℤ pos (2 ^ 44)
spread_high all given change k h few = high (all k) _ _ _ _ (h.left k) (h.within (day_before k)) (few k)
  where
    high : (x y z w : ℕ) (c : ℤ) → c ≡ (pos x -ℤ pos y) -ℤ (pos z -ℤ pos w) → w ≤ z → x ≤ 2 ^ 44 → c ≤ℤ pos (2 ^ 44)
    high x y z w c is le few = omega (arith, ints)
