-- The rows that the table of users gives are, once in order, the rows of the definition.
use Rattle.std.proofs.Common.{◌≡◌, ℕ, Bool, if◌then◌else◌, true, false, List, [], ◌∷◌, map, filter, reverse, nat_eq, sym, ap, subst, ◌∙◌, arith}
use Rattle.std.proofs.lemmas.Bool.{false≢true, lt-ltb, ltb-true, eqb-true}
use Rattle.std.proofs.lemmas.Cmp.{on_total, then_total, back_total, nat_cmp_total, nat_eq_equiv, eq_by_cmp_equiv}
use Rattle.std.proofs.lemmas.List.Sorted.{IsPermutation-sym, Contains-permutation}
use Rattle.std.proofs.lemmas.Map.Keys.{IsDistinct-IsPermutation}
use Rattle.std.proofs.lemmas.Map.Lookups.{exact_unsigned}
use Rattle.std.proofs.lemmas.Map.Made.{IsDistinct-keys_filter}
use Rattle.std.specs.Cmp.{IsTotalOrder, Equal-is}
use Rattle.std.specs.List.{AllByRecursion, IsDistinct}
use Rattle.std.specs.List.Sorted.{IsPermutation, IsSortedBy}
use Rattle.std.specs.Map.{keys_of}
use Rattle.std.specs.Ordering.{eq_by_cmp, is_lt, nat_cmp}
use Rattle.std.specs.declared.cmp.Ordering.TheVariants.{Equal}
use Rattle.tally_records.specs.declared.process.ProcRecord.{ProcRecord}
use Rattle.tally_usage.specs.declared.order.Order.{Order}
use Rattle.tally_usage.specs.declared.usage.Usage.{Usage}
use Rattle.tally_usage.specs.declared.user.UidRow.{UidRow}
use Rattle.tally_usage.specs.Order.{measure_of}
use Rattle.tally_usage.specs.inside.Rows.{is_counted, row_of_user}
use Rattle.tally_records.specs.Sorted.{in_order}
use Rattle.tally_usage.specs.Totals.{HasTotals}
use Rattle.tally_usage.specs.Usage.{no_usage, usage_of}
use Rattle.tally_usage.specs.User.{records_of_user, user_row, user_row_cmp, user_rows}
use Rattle.tally_usage.proofs.CommandLemmas.{then_equal, never_true}
use Rattle.tally_usage.proofs.GroupLemmas.{entry_usage, entry_of_record, in_group, record_of_entry}
use Rattle.tally_records.proofs.Members.{Member, Member-from_Contains, Contains-from_Member, Member-map, Member-from_map, Member-filter, Member-from_filter, length-Member}
use Rattle.tally_records.proofs.SortedLemmas.{ascends-from_sorted, is_in_order}
use Rattle.tally_usage.proofs.UsageLemmas.{count-usage_of}

pub user_cmp_total : (order : Order) → IsTotalOrder (user_row_cmp order)
user_cmp_total order = then_total (on_total (λ (r : UidRow). measure_of order r.usage) (back_total nat_cmp_total)) (on_total (λ (r : UidRow). r.uid) nat_cmp_total)

-- rows that tie are of one user
same_uid : (order : Order) (x y : UidRow) → user_row_cmp order x y ≡ Equal → x.uid ≡ y.uid
same_uid order x y e = exact_unsigned x.uid y.uid (then_equal _ (nat_cmp x.uid y.uid) e).1

-- rows of the definition that tie are equal
pub ties_are_equal : (rs : List ProcRecord) (order : Order) (x y : UidRow) → Member x (map (λ (r : ProcRecord). user_row rs r.uid) rs) → Member y (map (λ (r : ProcRecord). user_row rs r.uid) rs) → user_row_cmp order x y ≡ Equal → x ≡ y
ties_are_equal rs order x y m n e =
    let from = Member-from_map (λ (r : ProcRecord). user_row rs r.uid) rs x m in
    let from' = Member-from_map (λ (r : ProcRecord). user_row rs r.uid) rs y n in
    let same : from.0.uid ≡ from'.0.uid = sym (ap (λ (z : UidRow). z.uid) from.2) ∙ same_uid order x y e ∙ ap (λ (z : UidRow). z.uid) from'.2 in
    from.2 ∙ ap (user_row rs) same ∙ sym from'.2

module _ (order : Order) where
  all_apart : (e : ℕ × Usage) (fs : List (ℕ × Usage)) → AllByRecursion (λ k. nat_eq e.0 k ≡ false) (keys_of fs) → AllByRecursion (λ y. eq_by_cmp (user_row_cmp order) (row_of_user e) y ≡ false) (map row_of_user fs)
  all_apart e [] apart = tt
  all_apart e (f ∷ fs) apart = (
    never_true _ (λ tie. false≢true (sym apart.0 ∙ subst (λ k. nat_eq e.0 k ≡ true) (same_uid order (row_of_user e) (row_of_user f) ((Equal-is _).0 tie)) (nat_eq_equiv.refl e.0))),
    all_apart e fs apart.1,
  )

  rows_distinct : (fs : List (ℕ × Usage)) → IsDistinct nat_eq (keys_of fs) → IsDistinct (eq_by_cmp (user_row_cmp order)) (map row_of_user fs)
  unfolding IsDistinct
  rows_distinct [] distinct = tt
  rows_distinct (f ∷ fs) distinct = (all_apart f fs distinct.0, rows_distinct fs distinct.1)

module _ (es : List (ℕ × Usage)) (rs : List ProcRecord) (has : HasTotals nat_eq (λ r. r.uid) es rs) (distinct : IsDistinct nat_eq (keys_of es)) where
  abbrev uid_of : ProcRecord → ℕ
  uid_of r = r.uid

  abbrev rows : List UidRow
  rows = map row_of_user (filter is_counted es)

  abbrev wanted : List UidRow
  wanted = map (λ (r : ProcRecord). user_row rs r.uid) rs

  to : (x : UidRow) → Member x rows → Member x wanted
  to x m =
      let from = Member-from_map row_of_user (filter is_counted es) x m in
      let e = from.0 in
      let kept = Member-from_filter is_counted es e from.1 in
      let r = record_of_entry nat_eq_equiv eqb-true uid_of rs es has distinct e.0 e.1 kept.0 (ltb-true 0 e.1.count kept.1) in
      let usage : e.1 ≡ usage_of (records_of_user r.0.uid rs) = entry_usage nat_eq_equiv eqb-true uid_of rs es has distinct e.0 e.1 kept.0 ∙ ap (λ k. usage_of (records_of_user k rs)) r.2 in
      let same : x ≡ user_row rs r.0.uid = from.2 ∙ (λ i. record { uid = r.2 i; usage = usage i }) in
      subst (λ y. Member y wanted) (sym same) (Member-map (λ (r : ProcRecord). user_row rs r.uid) rs r.0 r.1)

  back : (x : UidRow) → Member x wanted → Member x rows
  back x m =
      let from = Member-from_map (λ (r : ProcRecord). user_row rs r.uid) rs x m in
      let r = from.0 in
      let e = entry_of_record nat_eq_equiv eqb-true uid_of rs es has distinct r from.1 in
      let counted : is_counted (r.uid, usage_of (records_of_user r.uid rs)) ≡ true = lt-ltb 0 _ (omega (arith, length-Member (records_of_user r.uid rs) r (in_group nat_eq_equiv eqb-true uid_of rs es has distinct r from.1), count-usage_of (records_of_user r.uid rs))) in
      subst (λ y. Member y rows) (sym from.2) (Member-map row_of_user (filter is_counted es) (r.uid, usage_of (records_of_user r.uid rs)) (Member-filter is_counted es _ counted e))

  -- sorted, the rows of the table are those of the definition
  pub rows_in_order : (order : Order) (xs : List UidRow) → IsPermutation rows xs → IsSortedBy (λ x y. is_lt (user_row_cmp order x y)) xs → xs ≡ in_order (user_row_cmp order) wanted
  rows_in_order order xs moved sorted =
      let apart : IsDistinct (eq_by_cmp (user_row_cmp order)) rows = rows_distinct order (filter is_counted es) (IsDistinct-keys_filter nat_eq is_counted es distinct) in
      is_in_order (user_cmp_total order) wanted xs (ties_are_equal rs order)
      (ascends-from_sorted (user_cmp_total order) xs (record { uid = 0; usage = no_usage }) sorted (IsDistinct-IsPermutation (eq_by_cmp (user_row_cmp order)) (eq_by_cmp_equiv (user_cmp_total order)).symm rows xs moved apart))
      (λ z m. to z (Member-from_Contains rows z (Contains-permutation xs rows z (IsPermutation-sym rows xs moved) (Contains-from_Member xs z m))))
      (λ z m. Member-from_Contains xs z (Contains-permutation rows xs z moved (Contains-from_Member rows z (back z m))))

pub user_rows-turned : (order : Order) (b : Bool) (rs : List ProcRecord) (xs : List UidRow) → xs ≡ in_order (user_row_cmp order) (map (λ r. user_row rs r.uid) rs) → (if b then reverse xs else xs) ≡ user_rows order b rs
unfolding user_rows
user_rows-turned order b rs xs is = ap (λ (l : List UidRow). if b then reverse l else l) is
