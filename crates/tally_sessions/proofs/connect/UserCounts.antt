-- Counts of users by row, while one of them changes.
use Rattle.std.proofs.Common.{◌≡◌, ◌≢◌, inl, inr, ◌∙◌, ℕ, ◌+◌, ◌-◌, ◌<◌, ◌≤◌, Bool, true, false, cond, List, [], ◌∷◌, length, ℤ, pos, neg_ℤ, ◌+ℤ◌, Option, Some, None, unwrap_or, refl, sym, ap, subst, arith}
use Rattle.std.proofs.lemmas.Bool.{cases_eq, cases_lt}
use Rattle.std.proofs.lemmas.Bool.Decides.{Decides-eqb}
use Rattle.std.proofs.lemmas.Cmp.{eq_by_cmp_equiv, nat_cmp_total, nat_list_cmp_total, on_total, then_total, tied_itself}
use Rattle.std.proofs.lemmas.Int.{ints}
use Rattle.std.proofs.lemmas.Map.Text.{is_eq-slice_cmp}
use Rattle.std.specs.Cmp.{IsTotalOrder, unsigned_tied}
use Rattle.std.specs.Cmp.Lexicographic.{slice_cmp}
use Rattle.std.specs.Map.{lookup}
use Rattle.std.specs.Option.{is_some, IsSome}
use Rattle.std.specs.Ordering.{is_eq, nat_cmp, ordering_then}
use Rattle.std.specs.Prelude.{bytes_eq, unsigned_abs}
use Rattle.std.specs.declared.cmp.Ordering.{Ordering}
use Rattle.std.specs.declared.cmp.Ordering.TheVariants.{Less, Equal, Greater}
use Rattle.std.proofs.lemmas.List.Sums.{sum_by-cons}
use Rattle.tally_sessions.proofs.connect.CountLemmas.{IsMoreAt, size_at, size_gone, size_same}
use Rattle.tally_sessions.specs.declared.connect.keys.RowUser.{RowUser}
use Rattle.tally_sessions.specs.inside.Changes.{AreWithin, count_of, rows_ahead}
use Rattle.tally_sessions.specs.inside.Counts.{size_of}
use Rattle.tally_sessions.specs.inside.Sums.{change_of, row_user_cmp}

pub row_user_total : IsTotalOrder row_user_cmp
row_user_total = then_total (on_total (λ (k : RowUser). k.user) nat_list_cmp_total) (on_total (λ (k : RowUser). k.row) nat_cmp_total)

-- the count that a table has at a key
abbrev pub found_at : List (RowUser × ℤ) → RowUser → Option ℤ
found_at counts k = lookup (λ j. is_eq (row_user_cmp k j)) counts

abbrev pub at_row : ℕ → List ℕ → RowUser
at_row row user = record { row = row; user = user }

last_equal : (r s : Ordering) → is_eq (ordering_then r s) ≡ true → s ≡ Equal
last_equal Less s h = absurd (cc)
last_equal Equal Less h = absurd (cc)
last_equal Equal Equal h = refl
last_equal Equal Greater h = absurd (cc)
last_equal Greater s h = absurd (cc)

same_row : (a b : RowUser) → is_eq (row_user_cmp a b) ≡ true → a.row ≡ b.row
same_row a b h = (Decides-eqb a.row b.row).0 (sym (unsigned_tied a.row b.row) ∙ ap is_eq (last_equal (slice_cmp nat_cmp a.user b.user) (nat_cmp a.row b.row) h))

then_equal : (r : Ordering) → is_eq (ordering_then r Equal) ≡ is_eq r
then_equal Less = refl
then_equal Equal = refl
then_equal Greater = refl

-- at one row only the users count
at_one_row : (row : ℕ) (name user : List ℕ) → is_eq (row_user_cmp (at_row row name) (at_row row user)) ≡ bytes_eq name user
at_one_row row name user = ap (λ s. is_eq (ordering_then (slice_cmp nat_cmp name user) s)) (tied_itself nat_cmp_total row) ∙ then_equal (slice_cmp nat_cmp name user) ∙ is_eq-slice_cmp name user

apart : (row k : ℕ) (name user : List ℕ) → k ≢ row → is_eq (row_user_cmp (at_row row name) (at_row k user)) ≡ false
apart row k name user other = by (is_eq (row_user_cmp (at_row row name) (at_row k user))) refl
  where
    by : (b : Bool) → is_eq (row_user_cmp (at_row row name) (at_row k user)) ≡ b → b ≡ false
    by true h = absurd (other (sym (same_row (at_row row name) (at_row k user) h)))
    by false h = refl

no_more : (z : ℤ) → z +ℤ pos 0 ≡ z
no_more z = omega (arith, ints)

-- each user's counts, after one was added to
pub more_at : (old new : List (RowUser × ℤ)) (row : ℕ) (user : List ℕ) (more : ℤ)
    → ((k : RowUser) → change_of row_user_cmp new k ≡ change_of row_user_cmp old k +ℤ cond (is_eq (row_user_cmp (at_row row user) k)) more (pos 0))
    → (name : List ℕ) → IsMoreAt (count_of old name) (count_of new name) row (cond (bytes_eq user name) more (pos 0))
more_at old new row user more added name = record {
  at = added (at_row row name) ∙ ap (λ b. count_of old name row +ℤ cond b more (pos 0)) (at_one_row row user name);
  others = λ k other. added (at_row k name) ∙ ap (λ b. count_of old name k +ℤ cond b more (pos 0)) (apart row k user name other) ∙ no_more (count_of old name k);
}

-- the rows stay within so many
pub put_within : (old new : List (RowUser × ℤ)) (at : RowUser) (rows : ℕ) → at.row < rows → ((k : RowUser) → is_eq (row_user_cmp at k) ≡ false → found_at new k ≡ found_at old k) → AreWithin old rows → AreWithin new rows
put_within old new at rows lt others within k some = by (is_eq (row_user_cmp at k)) refl
  where
    by : (b : Bool) → is_eq (row_user_cmp at k) ≡ b → k.row < rows
    by true h = subst (λ (n : ℕ). n < rows) (same_row at k h) lt
    by false h = within k (subst IsSome (others k h) some)

-- a count is no larger than all
pub count_few : (counts : List (RowUser × ℤ)) (name : List ℕ) (rows most : ℕ) → AreWithin counts rows → size_of (count_of counts name) rows ≤ most → (row : ℕ) → unsigned_abs (count_of counts name row) ≤ most
count_few counts name rows most within small row = elim (cases_lt row rows) [
  | inl lt ↦ let one = size_at (count_of counts name) row rows lt in omega arith
  | inr past ↦ by past (found_at counts (at_row row name)) refl
]
  where
    by : rows ≤ row → (o : Option ℤ) → found_at counts (at_row row name) ≡ o → unsigned_abs (unwrap_or o (pos 0)) ≤ most
    by past None e = omega arith
    by past (Some v) e = absurd (let lt = within (at_row row name) (ap is_some e) in omega arith)

-- the least key is out
pub record IsPopped (old popped : List (RowUser × ℤ)) (at : RowUser) (v : ℤ) : Type 0 where
  pub value : found_at old at ≡ Some v
  pub updates : (k : RowUser) → found_at popped k ≡ cond (is_eq (row_user_cmp at k)) None (found_at old k)

gone : (x v : ℤ) → x ≡ v → pos 0 ≡ x +ℤ neg_ℤ v
gone x v e = omega (arith, ints)

module _ (old popped : List (RowUser × ℤ)) (at : RowUser) (v : ℤ) (out : IsPopped old popped at v) where
  tied : (k : RowUser) → is_eq (row_user_cmp at k) ≡ true → change_of row_user_cmp old k ≡ v
  tied k h = ap (λ test. unwrap_or (lookup test old) (pos 0)) (λ i j. sym ((eq_by_cmp_equiv row_user_total).congr at k j h) i) ∙ ap (λ o. unwrap_or o (pos 0)) out.value

  popped_change : (k : RowUser) → change_of row_user_cmp popped k ≡ change_of row_user_cmp old k +ℤ cond (is_eq (row_user_cmp at k)) (neg_ℤ v) (pos 0)
  popped_change k = ap (λ o. unwrap_or o (pos 0)) (out.updates k) ∙ by (is_eq (row_user_cmp at k)) refl
    where
      by : (b : Bool) → is_eq (row_user_cmp at k) ≡ b → unwrap_or (cond b None (found_at old k)) (pos 0) ≡ change_of row_user_cmp old k +ℤ cond b (neg_ℤ v) (pos 0)
      by true h = gone (change_of row_user_cmp old k) v (tied k h)
      by false h = sym (no_more (change_of row_user_cmp old k))

  pub popped_at : (name : List ℕ) → IsMoreAt (count_of old name) (count_of popped name) at.row (cond (bytes_eq at.user name) (neg_ℤ v) (pos 0))
  popped_at = more_at old popped at.row at.user (neg_ℤ v) popped_change

  -- its row is one of so many
  pub popped_in : (rows : ℕ) → AreWithin old rows → at.row < rows
  popped_in rows within = within at (ap is_some out.value)

  pub popped_within : (rows : ℕ) → AreWithin old rows → AreWithin popped rows
  popped_within rows within k some = by (is_eq (row_user_cmp at k)) (subst IsSome (out.updates k) some)
    where
      by : (b : Bool) → IsSome (cond b None (found_at old k)) → k.row < rows
      by true some = absurd (let no : false ≡ true = some in cc)
      by false some = within k some

  -- the others are so much smaller
  pub popped_size : (name : List ℕ) (rows : ℕ) → at.row < rows → size_of (count_of popped name) rows + cond (bytes_eq at.user name) (unsigned_abs v) 0 ≡ size_of (count_of old name) rows
  popped_size name rows lt = by (bytes_eq at.user name) refl (popped_at name)
    where
      was : bytes_eq at.user name ≡ true → count_of old name at.row ≡ v
      was h = tied (at_row at.row name) (at_one_row at.row at.user name ∙ h)

      by : (b : Bool) → bytes_eq at.user name ≡ b → IsMoreAt (count_of old name) (count_of popped name) at.row (cond b (neg_ℤ v) (pos 0)) → size_of (count_of popped name) rows + cond b (unsigned_abs v) 0 ≡ size_of (count_of old name) rows
      by true h more =
          ap (λ (z : ℤ). size_of (count_of popped name) rows + unsigned_abs z) (sym (was h))
          ∙ size_gone (count_of old name) (count_of popped name) at.row rows lt (more.at ∙ sym (gone (count_of old name at.row) v (was h))) more.others
      by false h more = (let e : size_of (count_of popped name) rows + 0 ≡ size_of (count_of popped name) rows = omega arith in e)
          ∙ size_same (count_of old name) (count_of popped name) rows (λ k lt. all more k)
        where
          all : IsMoreAt (count_of old name) (count_of popped name) at.row (pos 0) → (k : ℕ) → count_of popped name k ≡ count_of old name k
          all more k = elim (cases_eq k at.row) [
            | inl e ↦ subst (λ (j : ℕ). count_of popped name j ≡ count_of old name j) (sym e) (more.at ∙ no_more (count_of old name at.row))
            | inr other ↦ more.others k other
          ]

  -- what the popped count is
  pub popped_few : (rows most : ℕ) → AreWithin old rows → ((name : List ℕ) → size_of (count_of old name) rows ≤ most) → unsigned_abs v ≤ most
  popped_few rows most within small =
      subst (λ (z : ℤ). unsigned_abs z ≤ most) (tied at (ap is_eq (tied_itself row_user_total at))) (count_few old at.user rows most within (small at.user) at.row)

pub rows_ahead-cons : (rows : ℕ) (e : RowUser × ℤ) (es : List (RowUser × ℤ)) → rows_ahead rows (e ∷ es) ≡ (rows - e.0.row) + rows_ahead rows es
rows_ahead-cons rows e es = sum_by-cons (λ (x : RowUser × ℤ). rows - x.0.row) e es

-- no entries are no counts
pub no_counts : (es : List (RowUser × ℤ)) → (0 < length es → false ≡ true) → (name : List ℕ) (row : ℕ) → count_of es name row ≡ pos 0
no_counts [] none name row = refl
no_counts (e ∷ es) none name row = absurd (let no = none (omega arith) in cc)
