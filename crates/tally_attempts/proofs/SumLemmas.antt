-- The rows that a table of counts gives are, once in order, the rows of the definition.
use Rattle.std.proofs.Common.{◌≡◌, ℕ, zero, suc, ◌<◌, Bool, true, false, List, [], ◌∷◌, filter, length, map, Some, refl, sym, ap, subst, ◌∙◌, arith}
use Rattle.std.proofs.lemmas.Bool.{false≢true}
use Rattle.std.proofs.lemmas.Cmp.{back_total, eq_by_cmp_equiv, nat_cmp_total, nat_list_cmp_total, on_total, then_total}
use Rattle.std.proofs.lemmas.List.Sorted.{Contains-permutation, IsPermutation-sym}
use Rattle.std.proofs.lemmas.Map.Keys.{IsDistinct-IsPermutation}
use Rattle.std.proofs.lemmas.Map.Lookups.{exact_bytes}
use Rattle.std.proofs.lemmas.Map.Views.{Contains-from_lookup, lookup-from_Contains}
use Rattle.std.specs.Cmp.{Equal-is, IsTotalOrder}
use Rattle.std.specs.Cmp.Lexicographic.{slice_cmp}
use Rattle.std.specs.List.{AllByRecursion, IsDistinct}
use Rattle.std.specs.List.Sorted.{IsPermutation, IsSortedBy}
use Rattle.std.specs.Map.{keys_of}
use Rattle.std.specs.Ordering.{eq_by_cmp, is_lt, nat_cmp, ordering_then}
use Rattle.std.specs.declared.cmp.Ordering.{Ordering}
use Rattle.std.specs.declared.cmp.Ordering.TheVariants.{Less, Equal, Greater}
use Rattle.tally_attempts.proofs.CountLemmas.{source_laws}
use Rattle.tally_attempts.specs.Sums.{attempt_sum, attempt_sum_cmp, is_from, sum_rows}
use Rattle.tally_attempts.specs.declared.attempt.AttemptSum.{AttemptSum}
use Rattle.tally_attempts.specs.declared.source.Source.{Source}
use Rattle.tally_attempts.specs.inside.Counts.{HasCounts, count_of, if_some, row_of, source_of}
use Rattle.tally_attempts.specs.inside.Sources.{is_same, same_source}
use Rattle.tally_records.proofs.Members.{Contains-from_Member, Member, Member-filter, Member-from_Contains, Member-from_filter, Member-from_map, Member-map, length-Member, some_member}
use Rattle.tally_records.proofs.SortedLemmas.{ascends-from_sorted, is_in_order}
use Rattle.tally_records.specs.declared.login.LoginRecord.{LoginRecord}

-- ---- the order of rows

pub cmp_total : IsTotalOrder attempt_sum_cmp
cmp_total =
    then_total (then_total (on_total (λ (a : AttemptSum). a.attempts) (back_total nat_cmp_total)) (on_total (λ (a : AttemptSum). a.user) nat_list_cmp_total))
    (on_total (λ (a : AttemptSum). a.remote) nat_list_cmp_total)

then_equal : (r s : Ordering) → ordering_then r s ≡ Equal → (r ≡ Equal) × (s ≡ Equal)
then_equal Less s e = absurd (let f : Less ≡ Equal = e in cc)
then_equal Equal s e = (refl, e)
then_equal Greater s e = absurd (let f : Greater ≡ Equal = e in cc)

-- rows that tie are of one user and one remote host
pub record Alike (x y : AttemptSum) : Type 0 where
  pub user : x.user ≡ y.user
  pub remote : x.remote ≡ y.remote

pub alike : (x y : AttemptSum) → attempt_sum_cmp x y ≡ Equal → Alike x y
alike x y e =
    let last = then_equal _ (slice_cmp nat_cmp x.remote y.remote) e in
    let first = then_equal _ (slice_cmp nat_cmp x.user y.user) last.0 in
    record { user = exact_bytes x.user y.user first.1; remote = exact_bytes x.remote y.remote last.1 }

-- rows of the definition that tie are equal
pub ties_are_equal : (rs : List LoginRecord) (x y : AttemptSum) → Member x (map (attempt_sum rs) rs) → Member y (map (attempt_sum rs) rs) → attempt_sum_cmp x y ≡ Equal → x ≡ y
ties_are_equal rs x y m n e =
    let from = Member-from_map (attempt_sum rs) rs x m in
    let from' = Member-from_map (attempt_sum rs) rs y n in
    let same = alike x y e in
    let user : from.0.user ≡ from'.0.user = sym (ap (λ (a : AttemptSum). a.user) from.2) ∙ same.user ∙ ap (λ (a : AttemptSum). a.user) from'.2 in
    let remote : from.0.remote ≡ from'.0.remote = sym (ap (λ (a : AttemptSum). a.remote) from.2) ∙ same.remote ∙ ap (λ (a : AttemptSum). a.remote) from'.2 in
    from.2 ∙ (λ i. record { user = user i; remote = remote i; attempts = length (filter (is_from (user i) (remote i)) rs) }) ∙ sym from'.2

-- ---- entries of different sources

pub never_true : (b : Bool) → (b ≡ true → ⊥) → b ≡ false
never_true true never = absurd (never refl)
never_true false never = refl

row_apart : (e f : Source × ℕ) → is_same e.0 f.0 ≡ false → eq_by_cmp attempt_sum_cmp (row_of e) (row_of f) ≡ false
row_apart e f apart = never_true _ (λ tie.
    let a = alike (row_of e) (row_of f) ((Equal-is _).0 tie) in
    let same : e.0 ≡ f.0 = λ i. record { user = a.user i; remote = a.remote i } in
    false≢true (sym apart ∙ subst (λ s. is_same e.0 s ≡ true) same (source_laws.refl e.0)))

all_apart : (e : Source × ℕ) (fs : List (Source × ℕ)) → AllByRecursion (λ s. is_same e.0 s ≡ false) (keys_of fs) → AllByRecursion (λ y. eq_by_cmp attempt_sum_cmp (row_of e) y ≡ false) (map row_of fs)
all_apart e [] apart = tt
all_apart e (f ∷ fs) apart = (row_apart e f apart.0, all_apart e fs apart.1)

rows_distinct : (fs : List (Source × ℕ)) → IsDistinct is_same (keys_of fs) → IsDistinct (eq_by_cmp attempt_sum_cmp) (map row_of fs)
unfolding IsDistinct
rows_distinct [] distinct = tt
rows_distinct (f ∷ fs) distinct = (all_apart f fs distinct.0, rows_distinct fs distinct.1)

-- ---- a table that has the counts of some records

some_is : (m n : ℕ) → if_some m ≡ Some n → (m ≡ n) × (0 < m)
some_is zero n e = cc
some_is (suc m) n e = (cc, omega arith)

is_some : (m : ℕ) → 0 < m → if_some m ≡ Some m
is_some zero l = absurd (omega (arith, l))
is_some (suc m) l = refl

module _ (es : List (Source × ℕ)) (rs : List LoginRecord) (has : HasCounts es rs) (distinct : IsDistinct is_same (keys_of es)) where
  abbrev group : Source → List LoginRecord
  group s = filter (is_from s.user s.remote) rs

  -- an entry has the count of its source, and some record is of it
  entry_count : (s : Source) (n : ℕ) → Member (s, n) es → (count_of s rs ≡ n) × (0 < count_of s rs)
  entry_count s n m = some_is (count_of s rs) n (sym (has.at s) ∙ lookup-from_Contains source_laws s n es distinct (Contains-from_Member es (s, n) m))

  record_of_entry : (s : Source) (n : ℕ) → Member (s, n) es → (r : LoginRecord) × Member r rs × (s ≡ source_of r)
  record_of_entry s n m =
      let some = some_member (group s) (entry_count s n m).1 in
      let from = Member-from_filter (is_from s.user s.remote) rs some.0 some.1 in
      (some.0, from.0, same_source s (source_of some.0) from.1)

  -- each record's source has an entry
  entry_of_record : (r : LoginRecord) → Member r rs → Member (source_of r, count_of (source_of r) rs) es
  entry_of_record r m =
      let s = source_of r in
      let own : 0 < count_of s rs = length-Member (group s) r (Member-filter (is_from s.user s.remote) rs r (source_laws.refl s) m) in
      Member-from_Contains es _ (Contains-from_lookup same_source s (count_of s rs) es (has.at s ∙ is_some (count_of s rs) own))

  to : (x : AttemptSum) → Member x (map row_of es) → Member x (map (attempt_sum rs) rs)
  to x m =
      let from = Member-from_map row_of es x m in
      let e = from.0 in
      let r = record_of_entry e.0 e.1 from.1 in
      let count : e.1 ≡ count_of (source_of r.0) rs = sym (entry_count e.0 e.1 from.1).0 ∙ ap (λ s. count_of s rs) r.2 in
      let same : x ≡ attempt_sum rs r.0 = from.2 ∙ (λ i. record { user = (r.2 i).user; remote = (r.2 i).remote; attempts = count i }) in
      subst (λ y. Member y (map (attempt_sum rs) rs)) (sym same) (Member-map (attempt_sum rs) rs r.0 r.1)

  back : (x : AttemptSum) → Member x (map (attempt_sum rs) rs) → Member x (map row_of es)
  back x m =
      let from = Member-from_map (attempt_sum rs) rs x m in
      subst (λ y. Member y (map row_of es)) (sym from.2) (Member-map row_of es (source_of from.0, count_of (source_of from.0) rs) (entry_of_record from.0 from.1))

  -- sorted, the rows of the table are those of the definition
  pub rows_in_order : (xs : List AttemptSum) → IsPermutation (map row_of es) xs → IsSortedBy (λ x y. is_lt (attempt_sum_cmp x y)) xs → xs ≡ sum_rows rs
  unfolding sum_rows
  rows_in_order xs moved sorted =
      is_in_order cmp_total (map (attempt_sum rs) rs) xs (ties_are_equal rs)
      (ascends-from_sorted cmp_total xs (record { user = []; remote = []; attempts = 0 }) sorted
      (IsDistinct-IsPermutation (eq_by_cmp attempt_sum_cmp) (eq_by_cmp_equiv cmp_total).symm (map row_of es) xs moved (rows_distinct es distinct)))
      (λ z m. to z (Member-from_Contains (map row_of es) z (Contains-permutation xs (map row_of es) z (IsPermutation-sym (map row_of es) xs moved) (Contains-from_Member xs z m))))
      (λ z m. Member-from_Contains xs z (Contains-permutation (map row_of es) xs z moved (Contains-from_Member (map row_of es) z (back z m))))
