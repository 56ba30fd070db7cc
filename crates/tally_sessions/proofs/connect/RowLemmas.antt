-- The rows that a table of sums gives are those of the definition.
use Rattle.std.proofs.Common.{◌≡◌, ℕ, ◌<◌, Bool, true, false, cond, List, [], ◌∷◌, map, filter, Some, All, get_or, unwrap_or, refl, sym, ap, subst, ◌∙◌, inl, inr, arith}
use Rattle.std.proofs.lemmas.Bool.{lt-ltb, ltb-true}
use Rattle.std.proofs.lemmas.Cmp.{on_total, tied_itself}
use Rattle.std.proofs.lemmas.List.Elements.{All-map, Contains-get_or}
use Rattle.std.specs.Cmp.{IsTotalOrder, Equal-is}
use Rattle.std.specs.List.{AllByRecursion}
use Rattle.std.specs.List.Sorted.{IsStrictlySortedBy}
use Rattle.std.specs.Map.{keys_of, lookup}
use Rattle.std.specs.Ordering.{is_eq, ordering_reverse}
use Rattle.std.specs.Prelude.{nat_lt}
use Rattle.std.specs.declared.cmp.Ordering.{Ordering}
use Rattle.std.specs.declared.cmp.Ordering.TheVariants.{Less, Equal}
use Rattle.tally_records.specs.Sorted.{in_order}
use Rattle.tally_records.proofs.Members.{Member, Member-from_Contains, Member-map, Member-from_map, Member-filter, Member-from_filter}
use Rattle.tally_records.proofs.SortedLemmas.{is_in_order}
use Rattle.tally_sessions.specs.inside.Sums.{above_zero, sum_at}

module _ {K Row : Type 0} {cmp : K → K → Ordering} (o : IsTotalOrder cmp) (exact : (x y : K) → cmp x y ≡ Equal → x ≡ y) (row : K → ℕ → Row) (key : Row → K) (seconds : Row → ℕ)
    (row-key : (k : K) (n : ℕ) → key (row k n) ≡ k) (row-seconds : (k : K) (n : ℕ) → seconds (row k n) ≡ n) where
  abbrev pub row_of : K × ℕ → Row
  row_of e = row e.0 e.1

  abbrev pub row_cmp : Row → Row → Ordering
  row_cmp a b = cmp (key a) (key b)

  above_rows : (k : K) (n : ℕ) (es : List (K × ℕ)) → AllByRecursion (λ j. cmp k j ≡ Less) (keys_of es) → AllByRecursion (λ r. row_cmp (row k n) r ≡ Less) (map row_of (filter above_zero es))
  above_rows k n [] all = tt
  above_rows k n (e ∷ es) all = by (above_zero e) (above_rows k n es all.1)
    where
      by : (b : Bool) → AllByRecursion (λ r. row_cmp (row k n) r ≡ Less) (map row_of (filter above_zero es)) → AllByRecursion (λ r. row_cmp (row k n) r ≡ Less) (map row_of (cond b (e ∷ filter above_zero es) (filter above_zero es)))
      by true rest = ((λ i. cmp (row-key k n i) (row-key e.0 e.1 i)) ∙ all.0, rest)
      by false rest = rest

  sorted_rows : (es : List (K × ℕ)) → IsStrictlySortedBy cmp (keys_of es) → IsStrictlySortedBy row_cmp (map row_of (filter above_zero es))
  unfolding IsStrictlySortedBy
  sorted_rows [] up = tt
  sorted_rows (e ∷ es) up = elim (above_zero e) as (λ b. IsStrictlySortedBy row_cmp (map row_of (cond b (e ∷ filter above_zero es) (filter above_zero es)))) [
    | true ↦ (above_rows e.0 e.1 es up.0, sorted_rows es up.1)
    | false ↦ sorted_rows es up.1
  ]

  not_equal : (x y : K) → cmp x y ≡ Less → is_eq (cmp y x) ≡ false
  not_equal x y e = ap is_eq (o.antisymm y x ∙ ap ordering_reverse e)

  all_keys : (P : K → Type 0) (es : List (K × ℕ)) (e : K × ℕ) → AllByRecursion P (keys_of es) → Member e es → P e.0
  all_keys P [] e all h = absurd h
  all_keys P (f ∷ fs) e all h = elim h [ inl same ↦ subst (λ (g : K × ℕ). P g.0) (sym same) all.0 | inr m ↦ all_keys P fs e all.1 m ]

  -- a table has its entries' sums
  sum_of_entry : (es : List (K × ℕ)) (e : K × ℕ) → IsStrictlySortedBy cmp (keys_of es) → Member e es → sum_at cmp es e.0 ≡ e.1
  unfolding IsStrictlySortedBy
  sum_of_entry [] e up h = absurd h
  sum_of_entry (f ∷ fs) e up h = elim h [
    | inl same ↦ ap (λ b. unwrap_or (cond b (Some f.1) (lookup (λ j. is_eq (cmp e.0 j)) fs)) 0) (ap (λ (g : K × ℕ). is_eq (cmp e.0 g.0)) (sym same) ∙ ap is_eq (tied_itself o e.0)) ∙ ap (λ (g : K × ℕ). g.1) (sym same)
    | inr m ↦ ap (λ b. unwrap_or (cond b (Some f.1) (lookup (λ j. is_eq (cmp e.0 j)) fs)) 0) (not_equal f.0 e.0 (all_keys (λ j. cmp f.0 j ≡ Less) fs e up.0 m)) ∙ sum_of_entry fs e up.1 m
  ]

  -- a sum above 0 is an entry's
  entry_of_sum : (es : List (K × ℕ)) (k : K) → 0 < sum_at cmp es k → Member (k, sum_at cmp es k) es
  entry_of_sum [] k lt = absurd (omega (arith, lt))
  entry_of_sum (f ∷ fs) k lt = by (is_eq (cmp k f.0)) refl lt (entry_of_sum fs k)
    where
      by : (b : Bool) → is_eq (cmp k f.0) ≡ b → 0 < unwrap_or (cond b (Some f.1) (lookup (λ j. is_eq (cmp k j)) fs)) 0 → (0 < sum_at cmp fs k → Member (k, sum_at cmp fs k) fs)
          → Member (k, unwrap_or (cond b (Some f.1) (lookup (λ j. is_eq (cmp k j)) fs)) 0) (f ∷ fs)
      by true e l rest = let same = exact k f.0 ((Equal-is (cmp k f.0)).0 e) in inl (λ i. (same i, f.1))
      by false e l rest = inr (rest l)

  module _ (es : List (K × ℕ)) (total : K → ℕ) (candidates : List K) (up : IsStrictlySortedBy cmp (keys_of es)) (sums : (k : K) → sum_at cmp es k ≡ total k) (counted : (k : K) → 0 < total k → Member k candidates) where
    abbrev rows : List Row
    rows = map row_of (filter above_zero es)

    abbrev all_rows : List Row
    all_rows = map (λ k. row k (total k)) candidates

    abbrev has_time : Row → Bool
    has_time r = nat_lt 0 (seconds r)

    is_row : (r : Row) → Member r (filter has_time all_rows) → (k : K) × (r ≡ row k (total k)) × (0 < total k)
    is_row r m =
        let kept = Member-from_filter has_time all_rows r m in
        let from = Member-from_map (λ k. row k (total k)) candidates r kept.0 in
        let time : nat_lt 0 (total from.0) ≡ true = ap (nat_lt 0) (sym (ap seconds from.2 ∙ row-seconds from.0 (total from.0))) ∙ kept.1 in
        (from.0, from.2, ltb-true 0 (total from.0) time)

    ties : (x y : Row) → Member x (filter has_time all_rows) → Member y (filter has_time all_rows) → row_cmp x y ≡ Equal → x ≡ y
    ties x y m n e =
        let p = is_row x m in
        let q = is_row y n in
        let same : p.0 ≡ q.0 = sym (ap key p.1 ∙ row-key p.0 (total p.0)) ∙ exact (key x) (key y) e ∙ ap key q.1 ∙ row-key q.0 (total q.0) in
        p.1 ∙ ap (λ k. row k (total k)) same ∙ sym q.1

    to : (r : Row) → Member r rows → Member r (filter has_time all_rows)
    to r m =
        let from = Member-from_map row_of (filter above_zero es) r m in
        let e = from.0 in
        let kept = Member-from_filter above_zero es e from.1 in
        let sum : e.1 ≡ total e.0 = sym (sum_of_entry es e up kept.0) ∙ sums e.0 in
        let positive : 0 < total e.0 = subst (λ n. 0 < n) sum (ltb-true 0 e.1 kept.1) in
        let is : r ≡ row e.0 (total e.0) = from.2 ∙ ap (row e.0) sum in
        let time : has_time r ≡ true = ap has_time is ∙ ap (nat_lt 0) (row-seconds e.0 (total e.0)) ∙ lt-ltb 0 (total e.0) positive in
        Member-filter has_time all_rows r time (subst (λ s. Member s all_rows) (sym is) (Member-map (λ k. row k (total k)) candidates e.0 (counted e.0 positive)))

    back : (r : Row) → Member r (filter has_time all_rows) → Member r rows
    back r m =
        let p = is_row r m in
        let k = p.0 in
        let there : Member (k, total k) es = subst (λ n. Member (k, n) es) (sums k) (entry_of_sum es k (subst (λ n. 0 < n) (sym (sums k)) p.2)) in
        subst (λ s. Member s rows) (sym p.1) (Member-map row_of (filter above_zero es) (k, total k) (Member-filter above_zero es (k, total k) (lt-ltb 0 (total k) p.2) there))

    -- the sums above 0, in the table's order, are the rows of the definition
    pub rows_are : rows ≡ in_order row_cmp (filter has_time all_rows)
    rows_are = is_in_order (on_total key o) (filter has_time all_rows) rows ties (sorted_rows es up) to back

  -- what holds of each key with a sum above 0 holds of each row
  pub each_row : (P : Row → Type 0) (es : List (K × ℕ)) → IsStrictlySortedBy cmp (keys_of es) → ((k : K) → 0 < sum_at cmp es k → P (row k (sum_at cmp es k))) → All P (map row_of (filter above_zero es))
  each_row P es up holds = All-map P row_of (filter above_zero es) (λ k d lt. each (get_or (filter above_zero es) k d) (Member-from_Contains (filter above_zero es) _ (Contains-get_or (filter above_zero es) k d lt)))
    where
      each : (e : K × ℕ) → Member e (filter above_zero es) → P (row_of e)
      each e m =
          let kept = Member-from_filter above_zero es e m in
          let sum = sum_of_entry es e up kept.0 in
          subst (λ n. P (row e.0 n)) sum (holds e.0 (subst (λ n. 0 < n) (sym sum) (ltb-true 0 e.1 kept.1)))
