-- Rows do not depend on the order of the records, and add up to all of them.
use Rattle.std.proofs.Common.{◌≡◌, ◌+◌, Bool, true, false, cond, ◌||◌, List, [], ◌∷◌, filter, length, map, sum_by, refl, sym, ap, subst, ◌∙◌, inl, inr, arith}
use Rattle.std.proofs.lemmas.Bool.{false≢true}
use Rattle.std.proofs.lemmas.Cmp.{eq_by_cmp_equiv}
use Rattle.std.proofs.lemmas.List.Sorted.{Contains-permutation, IsPermutation-map, IsPermutation-sym, sum_by-IsPermutation}
use Rattle.std.proofs.lemmas.List.Sums.{length-filter, sum_by-cons}
use Rattle.std.specs.Cmp.{Equal-is, both_ways, tied_itself}
use Rattle.std.specs.List.{list_any}
use Rattle.std.specs.List.Sorted.{IsPermutation, IsStrictlySortedBy}
use Rattle.std.specs.Ordering.{eq_by_cmp}
use Rattle.std.specs.declared.cmp.Ordering.TheVariants.{Less, Equal}
use Rattle.tally_attempts.proofs.CountLemmas.{source_laws}
use Rattle.tally_attempts.proofs.SumLemmas.{alike, cmp_total, never_true, ties_are_equal}
use Rattle.tally_attempts.specs.Sums.{attempt_sum, attempt_sum_cmp, is_from, sum_rows}
use Rattle.tally_attempts.specs.declared.attempt.AttemptSum.{AttemptSum}
use Rattle.tally_attempts.specs.inside.Counts.{source_of}
use Rattle.tally_attempts.specs.inside.Sources.{is_same, same_source}
use Rattle.tally_records.proofs.Members.{All-Member, Contains-from_Member, Member, Member-from_Contains, Member-from_map, Member-map, filter-same}
use Rattle.tally_records.proofs.SortedLemmas.{ascending_unique, in_order-ascends, in_order-from, in_order-has}
use Rattle.tally_records.specs.Sorted.{in_order}
use Rattle.tally_records.specs.declared.login.LoginRecord.{LoginRecord}

-- ---- the order of the records

length_same : (rs ss : List LoginRecord) → IsPermutation rs ss → (p : LoginRecord → Bool) → length (filter p ss) ≡ length (filter p rs)
length_same rs ss moved p = length-filter p ss ∙ sum_by-IsPermutation (λ r. cond (p r) 1 0) rs ss moved ∙ sym (length-filter p rs)

pub sum_rows-IsPermutation : (rs ss : List LoginRecord) → IsPermutation rs ss → sum_rows ss ≡ sum_rows rs
unfolding sum_rows
sum_rows-IsPermutation rs ss moved =
    let same : map (attempt_sum ss) ss ≡ map (attempt_sum rs) ss =
    λ i. map (λ (r : LoginRecord). let row : AttemptSum = record { user = r.user; remote = r.remote; attempts = length_same rs ss moved (is_from r.user r.remote) i } in row) ss in
    let xs = map (attempt_sum rs) rs in
    let ys = map (attempt_sum rs) ss in
    let mixed : IsPermutation xs ys = IsPermutation-map (attempt_sum rs) rs ss moved in
    let to : (z : AttemptSum) → Member z xs → Member z ys = λ z m. Member-from_Contains ys z (Contains-permutation xs ys z mixed (Contains-from_Member xs z m)) in
    let back : (z : AttemptSum) → Member z ys → Member z xs = λ z m. Member-from_Contains xs z (Contains-permutation ys xs z (IsPermutation-sym xs ys mixed) (Contains-from_Member ys z m)) in
    ap (in_order attempt_sum_cmp) same
    ∙ ascending_unique cmp_total (in_order attempt_sum_cmp ys) (in_order attempt_sum_cmp xs) (in_order-ascends cmp_total ys) (in_order-ascends cmp_total xs)
    (λ z m. in_order-has cmp_total z xs (ties_are_equal rs) (back z (in_order-from cmp_total z ys m)))
    (λ z m. in_order-has cmp_total z ys (λ a b p q. ties_are_equal rs a b (back a p) (back b q)) (to z (in_order-from cmp_total z xs m)))

-- ---- all rows together

any_of : {X : Type 0} (p : X → Bool) (xs : List X) (x : X) → Member x xs → p x ≡ true → list_any p xs ≡ true
any_of p [] x m e = absurd m
any_of p (y ∷ ys) x m e = elim m [
  | inl same ↦ λ i. (ap p (sym same) ∙ e) i || list_any p ys
  | inr n ↦ ap (λ b. p y || b) (any_of p ys x n e) ∙ or_true (p y)
]
  where
    or_true : (b : Bool) → (b || true) ≡ true
    or_true true = refl
    or_true false = refl

none_of : {X : Type 0} (p : X → Bool) (xs : List X) → ((x : X) → Member x xs → p x ≡ false) → list_any p xs ≡ false
none_of p [] none = refl
none_of p (y ∷ ys) none = (λ i. none y (inl refl) i || list_any p ys) ∙ none_of p ys (λ x m. none x (inr m))

filter-none : {X : Type 0} (xs : List X) → filter (λ x. false) xs ≡ []
filter-none [] = refl
filter-none (x ∷ xs) = filter-none xs

filter-all : {X : Type 0} (xs : List X) → filter (λ x. true) xs ≡ xs
filter-all [] = refl
filter-all (x ∷ xs) = λ i. x ∷ filter-all xs i

-- what passes one of two tests that exclude each other
length-either : {X : Type 0} (p q : X → Bool) → ((x : X) → p x ≡ true → q x ≡ false) → (xs : List X) → length (filter p xs) + length (filter q xs) ≡ length (filter (λ x. p x || q x) xs)
length-either p q apart [] = refl
length-either p q apart (x ∷ xs) = by (p x) (q x) (apart x) (length-either p q apart xs)
  where
    by : (a b : Bool) → (a ≡ true → b ≡ false) → length (filter p xs) + length (filter q xs) ≡ length (filter (λ y. p y || q y) xs)
        → length (cond a (x ∷ filter p xs) (filter p xs)) + length (cond b (x ∷ filter q xs) (filter q xs)) ≡ length (cond (a || b) (x ∷ filter (λ y. p y || q y) xs) (filter (λ y. p y || q y) xs))
    by true true never next = absurd (false≢true (sym (never refl)))
    by true false never next = omega (arith, next)
    by false true never next = omega (arith, next)
    by false false never next = next

module _ (rs : List LoginRecord) where
  -- the record is counted by one of the rows
  abbrev is_counted : List AttemptSum → LoginRecord → Bool
  is_counted rows s = list_any (λ y. eq_by_cmp attempt_sum_cmp y (attempt_sum rs s)) rows

  -- records tie where they are of one source
  tie_is : (r s : LoginRecord) → is_from r.user r.remote s ≡ eq_by_cmp attempt_sum_cmp (attempt_sum rs r) (attempt_sum rs s)
  tie_is r s = both_ways _ _
      (λ same.
      let own : source_of r ≡ source_of s = same_source (source_of r) (source_of s) same in
      let row : attempt_sum rs r ≡ attempt_sum rs s = λ i. record { user = (own i).user; remote = (own i).remote; attempts = length (filter (is_from (own i).user (own i).remote) rs) } in
      subst (λ x. eq_by_cmp attempt_sum_cmp (attempt_sum rs r) x ≡ true) row ((Equal-is _).1 (tied_itself cmp_total (attempt_sum rs r))))
      (λ ties.
      let a = alike (attempt_sum rs r) (attempt_sum rs s) ((Equal-is _).0 ties) in
      let own : source_of r ≡ source_of s = λ i. record { user = a.user i; remote = a.remote i } in
      subst (λ x. is_same (source_of r) x ≡ true) own (source_laws.refl (source_of r)))

  tied_through : (a b c : AttemptSum) → eq_by_cmp attempt_sum_cmp a c ≡ true → eq_by_cmp attempt_sum_cmp b c ≡ true → eq_by_cmp attempt_sum_cmp a b ≡ true
  tied_through a b c p q = (eq_by_cmp_equiv cmp_total).congr a c b p ∙ (eq_by_cmp_equiv cmp_total).symm c b ∙ q

  sums : (rows : List AttemptSum) → IsStrictlySortedBy attempt_sum_cmp rows → ((y : AttemptSum) → Member y rows → Member y (map (attempt_sum rs) rs)) → sum_by (λ y. y.attempts) rows ≡ length (filter (is_counted rows) rs)
  unfolding IsStrictlySortedBy
  sums [] up from = ap length (sym (filter-none rs))
  sums (y ∷ ys) up from =
      let is = Member-from_map (attempt_sum rs) rs y (from y (inl refl)) in
      let first : y.attempts ≡ length (filter (λ s. eq_by_cmp attempt_sum_cmp y (attempt_sum rs s)) rs) =
      subst (λ (z : AttemptSum). z.attempts ≡ length (filter (λ s. eq_by_cmp attempt_sum_cmp z (attempt_sum rs s)) rs)) (sym is.2)
      (ap length (filter-same (is_from is.0.user is.0.remote) (λ s. eq_by_cmp attempt_sum_cmp (attempt_sum rs is.0) (attempt_sum rs s)) rs (λ s n. tie_is is.0 s))) in
      let apart : (s : LoginRecord) → eq_by_cmp attempt_sum_cmp y (attempt_sum rs s) ≡ true → is_counted ys s ≡ false = λ s own.
      none_of (λ z. eq_by_cmp attempt_sum_cmp z (attempt_sum rs s)) ys (λ z m. never_true _ (λ ties.
      let through : attempt_sum_cmp y z ≡ Equal = (Equal-is _).0 (tied_through y z (attempt_sum rs s) own ties) in
      let less : attempt_sum_cmp y z ≡ Less = All-Member (λ x. attempt_sum_cmp y x ≡ Less) ys z up.0 m in
      (let f : Less ≡ Equal = sym less ∙ through in cc))) in
      sum_by-cons (λ (z : AttemptSum). z.attempts) y ys
      ∙ (λ i. first i + sums ys up.1 (λ z m. from z (inr m)) i)
      ∙ length-either (λ s. eq_by_cmp attempt_sum_cmp y (attempt_sum rs s)) (is_counted ys) apart rs

  pub rows_together : sum_by (λ (row : AttemptSum). row.attempts) (sum_rows rs) ≡ length rs
  unfolding sum_rows
  rows_together =
      let rows = in_order attempt_sum_cmp (map (attempt_sum rs) rs) in
      sums rows (in_order-ascends cmp_total (map (attempt_sum rs) rs)) (λ y m. in_order-from cmp_total y (map (attempt_sum rs) rs) m)
      ∙ ap length (filter-same (is_counted rows) (λ s. true) rs (λ s m.
      any_of (λ y. eq_by_cmp attempt_sum_cmp y (attempt_sum rs s)) rows (attempt_sum rs s) (in_order-has cmp_total (attempt_sum rs s) (map (attempt_sum rs) rs) (ties_are_equal rs) (Member-map (attempt_sum rs) rs s m))
      ((Equal-is _).1 (tied_itself cmp_total (attempt_sum rs s)))))
      ∙ ap length (filter-all rs)
