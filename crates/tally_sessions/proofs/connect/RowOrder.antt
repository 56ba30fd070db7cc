-- Rows of users on days that are written in order, and the sums that they give.
use Rattle.std.proofs.Common.{◌≡◌, ℕ, ◌+◌, ◌<◌, Bool, true, false, cond, List, [], ◌∷◌, ◌++◌, map, filter, Some, None, unwrap_or, refl, sym, ap, subst, ◌∙◌, arith}
use Rattle.std.proofs.lemmas.Bool.{lt-ltb}
use Rattle.std.proofs.lemmas.List.{map-append}
use Rattle.std.specs.Cmp.{IsTotalOrder, Equal-is}
use Rattle.std.specs.List.{AllByRecursion}
use Rattle.std.specs.List.Sorted.{IsStrictlySortedBy}
use Rattle.std.specs.Map.{keys_of, lookup}
use Rattle.std.specs.Ordering.{is_eq, ordering_reverse}
use Rattle.std.specs.declared.cmp.Ordering.{Ordering}
use Rattle.std.specs.declared.cmp.Ordering.TheVariants.{Less, Equal, Greater}
use Rattle.tally_sessions.specs.declared.connect.keys.DayUser.{DayUser}
use Rattle.tally_sessions.specs.declared.times.DayUserTime.{DayUserTime}
use Rattle.tally_sessions.specs.inside.Sums.{above_zero, day_user_time_of, day_user_cmp, sum_at}
use Rattle.tally_sessions.proofs.connect.DayUsers.{day_user_total}

abbrev pub key_of : DayUserTime → DayUser
key_of row = record { day = row.day; user = row.user }

-- the sums that rows give
abbrev pub sums_of : List DayUserTime → List (DayUser × ℕ)
sums_of rows = map (λ (row : DayUserTime). (key_of row, row.seconds)) rows

-- what rows give a user on a day
abbrev pub given_by : List DayUserTime → DayUser → ℕ
given_by rows k = sum_at day_user_cmp (sums_of rows) k

-- all rows are of keys before this one
abbrev pub AreBefore : List DayUserTime → DayUser → Type 0
AreBefore rows k = AllByRecursion (λ j. day_user_cmp j k ≡ Less) (keys_of (sums_of rows))

-- the rows ascend, and each has some time
pub record AreRows (rows : List DayUserTime) : Type 0 where
  pub up : IsStrictlySortedBy day_user_cmp (keys_of (sums_of rows))
  pub timed : AllByRecursion (λ (row : DayUserTime). 0 < row.seconds) rows

pub no_rows : AreRows []
unfolding IsStrictlySortedBy
no_rows = record { up = tt; timed = tt }

pub all_push : {X : Type 0} (P : X → Type 0) (xs : List X) (x : X) → AllByRecursion P xs → P x → AllByRecursion P (xs ++ x ∷ [])
all_push P [] x all p = (p, tt)
all_push P (y ∷ ys) x all p = (all.0, all_push P ys x all.1 p)

pub all_map : {X : Type 0} (P Q : X → Type 0) (xs : List X) → ((x : X) → P x → Q x) → AllByRecursion P xs → AllByRecursion Q xs
all_map P Q [] f all = tt
all_map P Q (x ∷ xs) f all = (f x all.0, all_map P Q xs f all.1)

module _ {K : Type 0} {cmp : K → K → Ordering} (o : IsTotalOrder cmp) where
  -- one key more, after all others
  sorted_push : (ks : List K) (k : K) → IsStrictlySortedBy cmp ks → AllByRecursion (λ j. cmp j k ≡ Less) ks → IsStrictlySortedBy cmp (ks ++ k ∷ [])
  unfolding IsStrictlySortedBy
  sorted_push [] k up before = (tt, tt)
  sorted_push (j ∷ js) k up before = (all_push (λ x. cmp j x ≡ Less) js k up.0 before.0, sorted_push js k up.1 before.1)

  flipped : (r s : Ordering) → r ≡ ordering_reverse s → is_eq r ≡ is_eq s
  flipped r Less e = ap is_eq e
  flipped r Equal e = ap is_eq e
  flipped r Greater e = ap is_eq e

  -- a key after all others has no sum
  none_after : (es : List (K × ℕ)) (k : K) → AllByRecursion (λ j. cmp j k ≡ Less) (keys_of es) → sum_at cmp es k ≡ 0
  none_after [] k before = refl
  none_after (e ∷ es) k before =
      ap (λ b. unwrap_or (cond b (Some e.1) (lookup (λ j. is_eq (cmp k j)) es)) 0) (flipped (cmp k e.0) (cmp e.0 k) (o.antisymm k e.0) ∙ ap is_eq before.0)
      ∙ none_after es k before.1

  -- a sum more, after all others
  sum_push : (es : List (K × ℕ)) (k : K) (n : ℕ) (q : K) → AllByRecursion (λ j. cmp j k ≡ Less) (keys_of es) → sum_at cmp (es ++ (k, n) ∷ []) q ≡ sum_at cmp es q + cond (is_eq (cmp k q)) n 0
  sum_push [] k n q before = by (is_eq (cmp q k)) (is_eq (cmp k q)) (flipped (cmp q k) (cmp k q) (o.antisymm q k))
    where
      by : (a b : Bool) → a ≡ b → unwrap_or (cond a (Some n) None) 0 ≡ 0 + cond b n 0
      by true true e = omega arith
      by false false e = refl
      by true false e = absurd (cc)
      by false true e = absurd (cc)
  sum_push (e ∷ es) k n q before = by (is_eq (cmp q e.0)) refl (sum_push es k n q before.1)
    where
      none : is_eq (cmp q e.0) ≡ true → is_eq (cmp k q) ≡ false
      none same =
          let tied = (Equal-is (cmp q e.0)).0 same in
          flipped (cmp k q) (cmp q k) (o.antisymm k q) ∙ ap is_eq (o.congr q e.0 k tied ∙ before.0)

      no_more : (m : ℕ) → m ≡ m + 0
      no_more m = omega arith

      by : (b : Bool) → is_eq (cmp q e.0) ≡ b → sum_at cmp (es ++ (k, n) ∷ []) q ≡ sum_at cmp es q + cond (is_eq (cmp k q)) n 0
          → unwrap_or (cond b (Some e.1) (lookup (λ j. is_eq (cmp q j)) (es ++ (k, n) ∷ []))) 0 ≡ unwrap_or (cond b (Some e.1) (lookup (λ j. is_eq (cmp q j)) es)) 0 + cond (is_eq (cmp k q)) n 0
      by true same rest = no_more e.1 ∙ ap (λ b. e.1 + cond b n 0) (sym (none same))
      by false other rest = rest

pub none_given : (rows : List DayUserTime) (k : DayUser) → AreBefore rows k → given_by rows k ≡ 0
none_given rows k before = none_after day_user_total (sums_of rows) k before

-- one row more, after all others
pub rows_push : (rows : List DayUserTime) (row : DayUserTime) → AreRows rows → AreBefore rows (key_of row) → 0 < row.seconds → AreRows (rows ++ row ∷ [])
rows_push rows row h before some = record {
  up = subst (IsStrictlySortedBy day_user_cmp) (sym keys) (sorted_push day_user_total (keys_of (sums_of rows)) (key_of row) h.up before);
  timed = all_push (λ (r : DayUserTime). 0 < r.seconds) rows row h.timed some;
}
  where
    keys : keys_of (sums_of (rows ++ row ∷ [])) ≡ keys_of (sums_of rows) ++ key_of row ∷ []
    keys = ap keys_of (map-append (λ (r : DayUserTime). (key_of r, r.seconds)) rows (row ∷ [])) ∙ map-append (λ (e : DayUser × ℕ). e.0) (sums_of rows) ((key_of row, row.seconds) ∷ [])

pub given_push : (rows : List DayUserTime) (row : DayUserTime) (k : DayUser) → AreBefore rows (key_of row) → given_by (rows ++ row ∷ []) k ≡ given_by rows k + cond (is_eq (day_user_cmp (key_of row) k)) row.seconds 0
given_push rows row k before =
    ap (λ es. sum_at day_user_cmp es k) (map-append (λ (r : DayUserTime). (key_of r, r.seconds)) rows (row ∷ []))
    ∙ sum_push day_user_total (sums_of rows) (key_of row) row.seconds k before

-- rows with a row more are before a key after them
pub before_push : (rows : List DayUserTime) (row : DayUserTime) (k : DayUser) → AreBefore rows k → day_user_cmp (key_of row) k ≡ Less → AreBefore (rows ++ row ∷ []) k
before_push rows row k before less =
    subst (AllByRecursion (λ j. day_user_cmp j k ≡ Less))
    (sym (ap keys_of (map-append (λ (r : DayUserTime). (key_of r, r.seconds)) rows (row ∷ [])) ∙ map-append (λ (e : DayUser × ℕ). e.0) (sums_of rows) ((key_of row, row.seconds) ∷ [])))
    (all_push (λ j. day_user_cmp j k ≡ Less) (keys_of (sums_of rows)) (key_of row) before less)

-- and before each later key
pub before_later : (rows : List DayUserTime) (j k : DayUser) → AreBefore rows j → day_user_cmp j k ≡ Less → AreBefore rows k
before_later rows j k before less =
    all_map (λ x. day_user_cmp x j ≡ Less) (λ x. day_user_cmp x k ≡ Less) (keys_of (sums_of rows)) (λ x earlier. day_user_total.trans x j k earlier less) before

-- rows with time are those of their sums
pub rows_of_sums : (rows : List DayUserTime) → AllByRecursion (λ (row : DayUserTime). 0 < row.seconds) rows → map day_user_time_of (filter above_zero (sums_of rows)) ≡ rows
rows_of_sums [] timed = refl
rows_of_sums (row ∷ rows) timed =
    ap (λ b. map day_user_time_of (cond b ((key_of row, row.seconds) ∷ filter above_zero (sums_of rows)) (filter above_zero (sums_of rows)))) (lt-ltb 0 row.seconds timed.0)
    ∙ ap (λ rs. row ∷ rs) (rows_of_sums rows timed.1)
