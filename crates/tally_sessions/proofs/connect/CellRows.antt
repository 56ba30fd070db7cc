-- The rows of the cells of a table, written by day and then by user.
use Rattle.std.proofs.Common.{◌≡◌, ◌≢◌, ◌⊎◌, inl, inr, ℕ, zero, suc, ◌+◌, ◌*◌, ◌<◌, ◌≤◌, cond, false, List, [], ◌∷◌, ◌++◌, length, get_or, ℤ, pos, ◌+ℤ◌, ◌≤ℤ◌, refl, sym, ap, subst, ◌∙◌, arith}
use Rattle.std.proofs.Math.ListN.{get_or-eq_default}
use Rattle.std.proofs.lemmas.Bool.{cases_eq, cases_lt}
use Rattle.std.proofs.lemmas.Cmp.{int_cmp_total}
use Rattle.std.proofs.lemmas.Int.{ints}
use Rattle.std.specs.Cmp.{int_cmp_is, tied_itself}
use Rattle.std.specs.Cmp.Lexicographic.{slice_cmp}
use Rattle.std.specs.List.{AllByRecursion}
use Rattle.std.specs.List.Sorted.{IsStrictlySortedBy}
use Rattle.std.specs.Ordering.{int_cmp, is_eq, nat_cmp, ordering_then}
use Rattle.std.specs.declared.cmp.Ordering.{Ordering}
use Rattle.std.specs.declared.cmp.Ordering.TheVariants.{Less, Equal}
use Rattle.tally_sessions.specs.declared.connect.keys.DayUser.{DayUser}
use Rattle.tally_sessions.specs.declared.times.DayUserTime.{DayUserTime}
use Rattle.tally_sessions.specs.inside.Sums.{day_user_cmp}
use Rattle.tally_sessions.specs.inside.Tables.{cell_at, key_at, IsCovered}
use Rattle.tally_sessions.proofs.connect.Cells.{days_apart}
use Rattle.tally_sessions.proofs.connect.DaySpread.{same_or_not, tie}
use Rattle.tally_sessions.proofs.connect.RowOrder.{AreBefore, AreRows, before_push, given_by, given_push, key_of, no_rows, none_given, rows_push}

all_at : {X : Type 0} (P : X → Type 0) (xs : List X) (i : ℕ) (d : X) → AllByRecursion P xs → i < length xs → P (get_or xs i d)
all_at P [] i d all lt = absurd (omega (arith, lt))
all_at P (x ∷ xs) zero d all lt = all.0
all_at P (x ∷ xs) (suc i) d all lt = all_at P xs i d all.1 (omega (arith, lt))

-- keys ascend by place
pub sorted_at : {K : Type 0} (cmp : K → K → Ordering) (ks : List K) (i j : ℕ) (d : K) → IsStrictlySortedBy cmp ks → i < j → j < length ks → cmp (get_or ks i d) (get_or ks j d) ≡ Less
unfolding IsStrictlySortedBy
sorted_at cmp [] i j d up lt within = absurd (omega (arith, within))
sorted_at cmp (k ∷ ks) i zero d up lt within = absurd (omega (arith, lt))
sorted_at cmp (k ∷ ks) zero (suc j) d up lt within = all_at (λ x. cmp k x ≡ Less) ks j d up.0 (omega (arith, within))
sorted_at cmp (k ∷ ks) (suc i) (suc j) d up lt within = sorted_at cmp ks i j d up.1 (omega (arith, lt)) (omega (arith, within))

-- a cell is after those of earlier days and of earlier users of its day
abbrev pub IsEarlier : ℕ → ℕ → ℕ → ℕ → Type 0
IsEarlier p q place rank = (p < place) ⊎ ((p ≡ place) × (q < rank))

abbrev pub IsLate : ℕ → ℕ → ℕ → ℕ → Type 0
IsLate p q place rank = (place < p) ⊎ ((place ≡ p) × (rank ≤ q))

early_or_late : (p q place rank : ℕ) → IsEarlier p q place rank ⊎ IsLate p q place rank
early_or_late p q place rank = by (cases_lt p place) (cases_lt place p) (cases_lt q rank)
  where
    by : (p < place) ⊎ (place ≤ p) → (place < p) ⊎ (p ≤ place) → (q < rank) ⊎ (rank ≤ q) → IsEarlier p q place rank ⊎ IsLate p q place rank
    by (inl lt) h g = inl (inl lt)
    by (inr le) (inl lt) g = inr (inl lt)
    by (inr le) (inr le') (inl lt) = inl (inr ((omega arith), lt))
    by (inr le) (inr le') (inr ge) = inr (inr ((omega arith), ge))

-- each cell of the table has what its user has on its day
abbrev pub IsOfCells : (DayUser → ℕ) → ℤ → List (List ℕ) → List ℕ → Type 0
IsOfCells all first users cells = (p q : ℕ) → q < length users → cell_at cells (length users) p q ≡ all (key_at first users p q)

-- the rows of all cells before one are written
pub record IsWritten (all : DayUser → ℕ) (first : ℤ) (users : List (List ℕ)) (rows : List DayUserTime) (place rank : ℕ) : Type 0 where
  pub ordered : AreRows rows
  pub late : (p q : ℕ) → q < length users → IsLate p q place rank → AreBefore rows (key_at first users p q)
  pub within : (k : DayUser) → given_by rows k ≤ all k
  pub done : (p q : ℕ) → q < length users → IsEarlier p q place rank → given_by rows (key_at first users p q) ≡ all (key_at first users p q)

pub written_start : (all : DayUser → ℕ) (first : ℤ) (users : List (List ℕ)) (rows : List DayUserTime) → rows ≡ [] → IsWritten all first users rows 0 0
written_start all first users rows none = subst (λ rs. IsWritten all first users rs 0 0) (sym none) (record {
  ordered = no_rows;
  late = λ p q lt late. tt;
  within = λ k. omega arith;
  done = λ p q lt early. none_earlier p q early;
})
  where
    none_earlier : (p q : ℕ) → IsEarlier p q 0 0 → given_by [] (key_at first users p q) ≡ all (key_at first users p q)
    none_earlier p q (inl lt) = absurd (omega (arith, lt))
    none_earlier p q (inr h) = absurd (let lt = h.1 in omega (arith, lt))

earlier_day : (x y : ℤ) → (x +ℤ pos 1) ≤ℤ y → int_cmp x y ≡ Less
earlier_day x y lt = sym (int_cmp_is x y Less (omega (arith, ints)))

module _ (all : DayUser → ℕ) (first : ℤ) (users : List (List ℕ)) (rows : List DayUserTime) (place rank : ℕ) (up : IsStrictlySortedBy (slice_cmp nat_cmp) users) (known : rank < length users) (h : IsWritten all first users rows place rank) where
  abbrev at : DayUser
  at = key_at first users place rank

  rows_before : AreBefore rows at
  rows_before = h.late place rank known (inr (refl, omega arith))

  -- a later cell's key is a later one
  later : (p q : ℕ) → q < length users → IsLate p q place (rank + 1) → day_user_cmp at (key_at first users p q) ≡ Less
  later p q lt (inl after) = ap (λ r. ordering_then r (slice_cmp nat_cmp (get_or users rank []) (get_or users q []))) (earlier_day (first +ℤ pos place) (first +ℤ pos p) (omega (arith, ints, after)))
  later p q lt (inr same) =
      ap (λ r. ordering_then r (slice_cmp nat_cmp (get_or users rank []) (get_or users q [])))
      (subst (λ n. int_cmp (first +ℤ pos place) (first +ℤ pos n) ≡ Equal) same.0 (tied_itself int_cmp_total (first +ℤ pos place)))
      ∙ sorted_at (slice_cmp nat_cmp) users rank q [] up (let le = same.1 in omega (arith, le)) lt

  still_late : (p q : ℕ) → IsLate p q place (rank + 1) → IsLate p q place rank
  still_late p q (inl after) = inl after
  still_late p q (inr same) = inr (same.0, let le = same.1 in omega (arith, le))

  done_or_here : (p q : ℕ) → IsEarlier p q place (rank + 1) → IsEarlier p q place rank ⊎ ((p ≡ place) × (q ≡ rank))
  done_or_here p q (inl before) = inl (inl before)
  done_or_here p q (inr same) = by (cases_lt q rank)
    where
      by : (q < rank) ⊎ (rank ≤ q) → IsEarlier p q place rank ⊎ ((p ≡ place) × (q ≡ rank))
      by (inl lt) = inl (inr (same.0, lt))
      by (inr le) = inr (same.0, let lt = same.1 in omega (arith, lt, le))

  -- a cell of 0 has no row
  pub written_past : all at ≡ 0 → IsWritten all first users rows place (rank + 1)
  written_past none = record {
    ordered = h.ordered;
    late = λ p q lt late. h.late p q lt (still_late p q late);
    within = h.within;
    done = λ p q lt early. by p q lt (done_or_here p q early);
  }
    where
      by : (p q : ℕ) → q < length users → IsEarlier p q place rank ⊎ ((p ≡ place) × (q ≡ rank)) → given_by rows (key_at first users p q) ≡ all (key_at first users p q)
      by p q lt (inl before) = h.done p q lt before
      by p q lt (inr here) = (λ i. given_by rows (key_at first users (here.0 i) (here.1 i))) ∙ none_given rows at rows_before ∙ sym none ∙ (λ i. all (key_at first users (sym here.0 i) (sym here.1 i)))

  -- and each other cell one
  pub written_on : (row : DayUserTime) → key_of row ≡ at → row.seconds ≡ all at → 0 < row.seconds → IsWritten all first users (rows ++ row ∷ []) place (rank + 1)
  written_on row key seconds some = record {
    ordered = rows_push rows row h.ordered row_last some;
    late = λ p q lt late. before_push rows row (key_at first users p q) (h.late p q lt (still_late p q late)) (ap (λ k. day_user_cmp k (key_at first users p q)) key ∙ later p q lt late);
    within = λ k. in_all k (same_or_not at k);
    done = λ p q lt early. by p q lt (done_or_here p q early);
  }
    where
      row_last : AreBefore rows (key_of row)
      row_last = subst (AreBefore rows) (sym key) rows_before

      given : (k : DayUser) → given_by (rows ++ row ∷ []) k ≡ given_by rows k + cond (is_eq (day_user_cmp at k)) (all at) 0
      given k = given_push rows row k row_last ∙ (λ i. given_by rows k + cond (is_eq (day_user_cmp (key i) k)) (seconds i) 0)

      nothing : (n : ℕ) → n + 0 ≡ n
      nothing n = omega arith

      only : (n : ℕ) → 0 + n ≡ n
      only n = omega arith

      whole : given_by (rows ++ row ∷ []) at ≡ all at
      whole = given at ∙ (λ i. none_given rows at rows_before i + cond (tie at at refl i) (all at) 0) ∙ only (all at)

      kept : (k : DayUser) → is_eq (day_user_cmp at k) ≡ false → given_by (rows ++ row ∷ []) k ≡ given_by rows k
      kept k other = given k ∙ ap (λ b. given_by rows k + cond b (all at) 0) other ∙ nothing (given_by rows k)

      in_all : (k : DayUser) → (at ≡ k) ⊎ (is_eq (day_user_cmp at k) ≡ false) → given_by (rows ++ row ∷ []) k ≤ all k
      in_all k (inl e) = subst (λ j. given_by (rows ++ row ∷ []) j ≤ all j) e (subst (λ n. n ≤ all at) (sym whole) (omega arith))
      in_all k (inr other) = subst (λ n. n ≤ all k) (sym (kept k other)) (h.within k)

      before : (p q : ℕ) → q < length users → IsEarlier p q place rank → (at ≡ key_at first users p q) ⊎ (is_eq (day_user_cmp at (key_at first users p q)) ≡ false) → given_by (rows ++ row ∷ []) (key_at first users p q) ≡ all (key_at first users p q)
      before p q lt early (inl e) = subst (λ j. given_by (rows ++ row ∷ []) j ≡ all j) e whole
      before p q lt early (inr other) = kept (key_at first users p q) other ∙ h.done p q lt early

      by : (p q : ℕ) → q < length users → IsEarlier p q place rank ⊎ ((p ≡ place) × (q ≡ rank)) → given_by (rows ++ row ∷ []) (key_at first users p q) ≡ all (key_at first users p q)
      by p q lt (inl early) = before p q lt early (same_or_not at (key_at first users p q))
      by p q lt (inr here) = (λ i. given_by (rows ++ row ∷ []) (key_at first users (here.0 i) (here.1 i))) ∙ whole ∙ (λ i. all (key_at first users (sym here.0 i) (sym here.1 i)))

-- past the last user the next day begins
pub written_next : (all : DayUser → ℕ) (first : ℤ) (users : List (List ℕ)) (rows : List DayUserTime) (place rank : ℕ) → rank ≡ length users → IsWritten all first users rows place rank → IsWritten all first users rows (place + 1) 0
written_next all first users rows place rank end h = record {
  ordered = h.ordered;
  late = λ p q lt late. h.late p q lt (by_late p q late);
  within = h.within;
  done = λ p q lt early. h.done p q lt (by_early p q lt early);
}
  where
    by_late : (p q : ℕ) → IsLate p q (place + 1) 0 → IsLate p q place rank
    by_late p q (inl after) = inl (omega (arith, after))
    by_late p q (inr same) = inl (let e = same.0 in omega (arith, e))

    by_early : (p q : ℕ) → q < length users → IsEarlier p q (place + 1) 0 → IsEarlier p q place rank
    by_early p q lt (inl before) = by (cases_lt p place)
      where
        by : (p < place) ⊎ (place ≤ p) → IsEarlier p q place rank
        by (inl early) = inl early
        by (inr le) = inr ((omega (arith, before, le)), omega (arith, lt, end))
    by_early p q lt (inr same) = absurd (let none = same.1 in omega (arith, none))

-- past the last cell the rows give all
pub given_all : (all : DayUser → ℕ) (first : ℤ) (users : List (List ℕ)) (cells : List ℕ) (rows : List DayUserTime) (place rank : ℕ) → IsOfCells all first users cells → ((k : DayUser) → 0 < all k → IsCovered first users k)
    → rank < length users → length cells ≤ place * length users + rank → IsWritten all first users rows place rank → (k : DayUser) → given_by rows k ≡ all k
given_all all first users cells rows place rank of covered known end h k = by_all (cases_eq (all k) 0)
  where
    past : (p q : ℕ) → q < length users → IsLate p q place rank → length cells ≤ p * length users + q
    past p q lt (inl after) = let up = days_apart (length users) place rank p q known after in omega (arith, up, end)
    past p q lt (inr same) = let row = ap (λ n. n * length users) same.0 in let le = same.1 in omega (arith, end, row, le)

    least : (n m : ℕ) → n ≤ m → m ≡ 0 → n ≡ m
    least n m le none = omega (arith, le, none)

    by : (p q : ℕ) → q < length users → IsEarlier p q place rank ⊎ IsLate p q place rank → given_by rows (key_at first users p q) ≡ all (key_at first users p q)
    by p q lt (inl early) = h.done p q lt early
    by p q lt (inr late) = least _ _ (h.within (key_at first users p q)) (sym (of p q lt) ∙ get_or-eq_default cells 0 (past p q lt late))

    by_all : (all k ≡ 0) ⊎ (all k ≢ 0) → given_by rows k ≡ all k
    by_all (inl none) = least _ _ (h.within k) none
    by_all (inr some) =
        let c = covered k (omega (arith, some)) in
        subst (λ j. given_by rows j ≡ all j) c.is (by c.place c.rank c.known (early_or_late c.place c.rank place rank))
