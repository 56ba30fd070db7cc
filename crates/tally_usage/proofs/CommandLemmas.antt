-- The rows that the table of commands gives are, once in order, the rows of the definition.
use Rattle.std.proofs.Common.{◌≡◌, ◌<◌, ◌≤◌, ◌^◌, Bool, true, false, not, cond, if◌then◌else◌, ◌&&◌, List, [], ◌∷◌, ◌++◌, length, map, filter, reverse, All, refl, sym, ap, subst, ◌∙◌, inl, inr, arith, ltb}
use Rattle.std.proofs.lemmas.Bool.{false≢true, lt-ltb, ltb-true}
use Rattle.std.proofs.lemmas.List.{append-nil}
use Rattle.std.proofs.lemmas.Cmp.{and_equiv, on_equiv, on_total, then_total, back_total, nat_cmp_total, nat_list_cmp_total, nat_list_eq_equiv, eq_by_cmp_equiv}
use Rattle.std.proofs.lemmas.List.Sorted.{IsPermutation-sym, Contains-permutation}
use Rattle.std.proofs.lemmas.Map.Keys.{IsDistinct-IsPermutation, IsDistinct-push}
use Rattle.std.proofs.lemmas.Map.Lookups.{exact_bytes}
use Rattle.std.proofs.lemmas.Map.Made.{IsDistinct-keys_filter}
use Rattle.std.specs.Cmp.{IsEquivalence, IsTotalOrder, bool_cmp_total, bool_eq_equiv, Equal-is}
use Rattle.std.specs.Cmp.Lexicographic.{slice_cmp}
use Rattle.std.specs.List.{AllByRecursion, IsDistinct}
use Rattle.std.specs.List.Sorted.{IsPermutation, IsSortedBy}
use Rattle.std.specs.Map.{keys_of}
use Rattle.std.specs.Ordering.{bool_cmp, eq_by_cmp, is_lt, nat_cmp, ordering_then}
use Rattle.std.specs.declared.cmp.Ordering.{Ordering}
use Rattle.std.specs.declared.cmp.Ordering.TheVariants.{Less, Equal, Greater}
use Rattle.tally_records.specs.declared.process.ProcRecord.{ProcRecord}
use Rattle.tally_records.specs.ProcRecord.{IsBounded}
use Rattle.tally_usage.specs.declared.command.Command.{Command}
use Rattle.tally_usage.specs.declared.command.CommandRow.{CommandRow}
use Rattle.tally_usage.specs.declared.order.Order.{Order}
use Rattle.tally_usage.specs.declared.usage.Usage.{Usage}
use Rattle.tally_usage.specs.Command.{command_of, command_row, command_row_cmp, command_rows, is_same_command, is_stray, other_row, records_of_command, row_of_record}
use Rattle.tally_usage.specs.inside.Keys.{same_command}
use Rattle.tally_usage.specs.Order.{measure_of}
use Rattle.tally_usage.specs.inside.Rows.{is_counted, is_joined, joined_usage, others_row, own_rows, row_of_command, row_of_others}
use Rattle.tally_records.specs.Sorted.{in_order}
use Rattle.tally_usage.specs.Totals.{HasTotals}
use Rattle.tally_usage.specs.inside.Usage.{Fits}
use Rattle.tally_usage.specs.Usage.{no_usage, usage_of}
use Rattle.tally_usage.proofs.GroupLemmas.{entry_usage, entry_of_record, in_group, joined_usage-filter, list_any-none, record_of_entry}
use Rattle.tally_records.proofs.Members.{Member, Member-from_Contains, Contains-from_Member, Member-map, Member-from_map, Member-filter, Member-from_filter, Member-append_left, Member-append_right, Member-from_append, filter-same, length-Member, some_member}
use Rattle.tally_records.proofs.SortedLemmas.{ascends-from_sorted, is_in_order}
use Rattle.tally_usage.proofs.UsageLemmas.{count-usage_of, filter-Fits}

-- ---- the groups' equality and the rows' order

pub command_laws : IsEquivalence is_same_command
command_laws = and_equiv (on_equiv (λ (c : Command). c.name) nat_list_eq_equiv) (on_equiv (λ (c : Command). c.forked) bool_eq_equiv)

pub command_cmp_total : (order : Order) → IsTotalOrder (command_row_cmp order)
command_cmp_total order =
    then_total (then_total (then_total (on_total (λ (r : CommandRow). measure_of order r.usage) (back_total nat_cmp_total))
    (on_total (λ (r : CommandRow). r.name) nat_list_cmp_total)) (on_total (λ (r : CommandRow). r.forked) bool_cmp_total)) (on_total (λ (r : CommandRow). r.other) bool_cmp_total)

pub then_equal : (r s : Ordering) → ordering_then r s ≡ Equal → (r ≡ Equal) × (s ≡ Equal)
then_equal Less s e = absurd (let f : Less ≡ Equal = e in cc)
then_equal Equal s e = (refl, e)
then_equal Greater s e = absurd (let f : Greater ≡ Equal = e in cc)

bool_exact : (a b : Bool) → bool_cmp a b ≡ Equal → a ≡ b
bool_exact true true e = refl
bool_exact false false e = refl
bool_exact true false e = absurd (let f : Greater ≡ Equal = e in cc)
bool_exact false true e = absurd (let f : Less ≡ Equal = e in cc)

-- rows that tie have the same name, mark and kind
record Alike (x y : CommandRow) : Type 0 where
  name : x.name ≡ y.name
  forked : x.forked ≡ y.forked
  other : x.other ≡ y.other

alike : (order : Order) (x y : CommandRow) → command_row_cmp order x y ≡ Equal → Alike x y
alike order x y e =
    let last = then_equal _ (bool_cmp x.other y.other) e in
    let middle = then_equal _ (bool_cmp x.forked y.forked) last.0 in
    let first = then_equal _ (slice_cmp nat_cmp x.name y.name) middle.0 in
    record { name = exact_bytes x.name y.name first.1; forked = bool_exact x.forked y.forked middle.1; other = bool_exact x.other y.other last.1 }

pub never_true : (b : Bool) → (b ≡ true → ⊥) → b ≡ false
never_true true never = absurd (never refl)
never_true false never = refl

not_true : (b : Bool) → not b ≡ true → b ≡ false
not_true true e = absurd (false≢true e)
not_true false e = refl

pub both : (a b : Bool) → (a && b) ≡ true → (a ≡ true) × (b ≡ true)
both true b h = (refl, h)
both false b h = absurd (false≢true h)

-- ---- rows of different groups do not tie

module _ (order : Order) where
  ties : CommandRow → CommandRow → Bool
  ties x y = eq_by_cmp (command_row_cmp order) x y

  rows_apart : (e f : Command × Usage) → is_same_command e.0 f.0 ≡ false → eq_by_cmp (command_row_cmp order) (row_of_command e) (row_of_command f) ≡ false
  rows_apart e f apart = never_true _ (λ tie.
      let a = alike order (row_of_command e) (row_of_command f) ((Equal-is _).0 tie) in
      let same : e.0 ≡ f.0 = λ i. record { name = a.name i; forked = a.forked i } in
      false≢true (sym apart ∙ subst (λ c. is_same_command e.0 c ≡ true) same (command_laws.refl e.0)))

  all_apart : (e : Command × Usage) (fs : List (Command × Usage)) → AllByRecursion (λ k. is_same_command e.0 k ≡ false) (keys_of fs) → AllByRecursion (λ y. eq_by_cmp (command_row_cmp order) (row_of_command e) y ≡ false) (map row_of_command fs)
  all_apart e [] apart = tt
  all_apart e (f ∷ fs) apart = (rows_apart e f apart.0, all_apart e fs apart.1)

  own_distinct : (fs : List (Command × Usage)) → IsDistinct is_same_command (keys_of fs) → IsDistinct (eq_by_cmp (command_row_cmp order)) (map row_of_command fs)
  unfolding IsDistinct
  own_distinct [] distinct = tt
  own_distinct (f ∷ fs) distinct = (all_apart f fs distinct.0, own_distinct fs distinct.1)

  others_apart : (u : Usage) (fs : List (Command × Usage)) → AllByRecursion (λ y. eq_by_cmp (command_row_cmp order) (row_of_others u) y ≡ false) (map row_of_command fs)
  others_apart u [] = tt
  others_apart u (f ∷ fs) = (never_true _ (λ tie. false≢true (sym (alike order (row_of_others u) (row_of_command f) ((Equal-is _).0 tie)).other)), others_apart u fs)

  rows_distinct : (u : Usage) (fs : List (Command × Usage)) → IsDistinct is_same_command (keys_of fs) → IsDistinct (eq_by_cmp (command_row_cmp order)) (map row_of_command fs ++ others_row u)
  rows_distinct u fs distinct = by (ltb 0 u.count)
    where
      by : (b : Bool) → IsDistinct (eq_by_cmp (command_row_cmp order)) (map row_of_command fs ++ cond b (row_of_others u ∷ []) [])
      by true = IsDistinct-push (eq_by_cmp_equiv (command_cmp_total order)) (map row_of_command fs) (row_of_others u) (own_distinct fs distinct)
          (list_any-none (eq_by_cmp (command_row_cmp order) (row_of_others u)) (map row_of_command fs) (others_apart u fs))
      by false = subst (IsDistinct (eq_by_cmp (command_row_cmp order))) (sym (append-nil (map row_of_command fs))) (own_distinct fs distinct)

-- ---- the rows of the definition

module _ (all : Bool) (rs : List ProcRecord) where
  abbrev joins : ProcRecord → Bool
  joins r = not all && is_stray rs (command_of r)

  rows_tie : (r s : ProcRecord) (a b : Bool) → joins r ≡ a → joins s ≡ b → Alike (cond a (other_row rs) (command_row rs (command_of r))) (cond b (other_row rs) (command_row rs (command_of s)))
      → cond a (other_row rs) (command_row rs (command_of r)) ≡ cond b (other_row rs) (command_row rs (command_of s))
  rows_tie r s true true p q a = refl
  rows_tie r s true false p q a = absurd (false≢true (sym a.other))
  rows_tie r s false true p q a = absurd (false≢true a.other)
  rows_tie r s false false p q a =
      let same : command_of r ≡ command_of s = λ i. record { name = a.name i; forked = a.forked i } in
      ap (command_row rs) same

  -- rows of the definition that tie are equal
  pub ties_are_equal : (order : Order) (x y : CommandRow) → Member x (map (row_of_record all rs) rs) → Member y (map (row_of_record all rs) rs) → command_row_cmp order x y ≡ Equal → x ≡ y
  ties_are_equal order x y m n e =
      let from = Member-from_map (row_of_record all rs) rs x m in
      let from' = Member-from_map (row_of_record all rs) rs y n in
      let a = subst (λ z. Alike z (row_of_record all rs from'.0)) from.2 (subst (λ z. Alike x z) from'.2 (alike order x y e)) in
      from.2 ∙ rows_tie from.0 from'.0 _ _ refl refl a ∙ sym from'.2

-- ---- the rows of a table that has the totals of some records

module _ (all : Bool) (es : List (Command × Usage)) (rs : List ProcRecord) (has : HasTotals is_same_command command_of es rs) (distinct : IsDistinct is_same_command (keys_of es)) where
  abbrev usage_at : Command → Usage
  usage_at c = usage_of (records_of_command c rs)

  -- whether the record's group is joined
  abbrev is_joined_record : ProcRecord → Bool
  is_joined_record r = not all && is_stray rs (command_of r)

  abbrev others : Usage
  others = joined_usage (filter (is_joined all) es)

  joined_here : (r : ProcRecord) → is_joined all (command_of r, usage_at (command_of r)) ≡ is_joined_record r
  unfolding usage_of
  joined_here r = refl

  others_is : others ≡ usage_of (filter is_joined_record rs)
  others_is =
      joined_usage-filter command_laws same_command command_of rs es has distinct (is_joined all)
      ∙ ap usage_of (filter-same (λ r. is_joined all (command_of r, usage_at (command_of r))) is_joined_record rs (λ r m. joined_here r))

  -- what the joined groups used fits
  pub others-Fits : All IsBounded rs → length rs ≤ 2 ^ 28 → Fits others
  others-Fits bounded few = subst Fits (sym others_is) (filter-Fits is_joined_record rs bounded few)

  -- where a record is joined, the rows' last is that of the definition
  others_row_is : (r : ProcRecord) → is_joined_record r ≡ true → row_of_others others ≡ other_row rs
  others_row_is r joined =
      let some = (both (not all) (is_stray rs (command_of r)) joined).0 in
      ap row_of_others (others_is ∙ ap usage_of (filter-same is_joined_record (λ x. is_stray rs (command_of x)) rs (λ x m. ap (λ b. b && is_stray rs (command_of x)) some)))

  to_own : (x : CommandRow) → Member x (own_rows all es) → Member x (map (row_of_record all rs) rs)
  to_own x m =
      let from = Member-from_map row_of_command (filter (λ e. not (is_joined all e) && is_counted e) es) x m in
      let e = from.0 in
      let kept = Member-from_filter (λ e. not (is_joined all e) && is_counted e) es e from.1 in
      let tests = both (not (is_joined all e)) (is_counted e) kept.1 in
      let r = record_of_entry command_laws same_command command_of rs es has distinct e.0 e.1 kept.0 (ltb-true 0 e.1.count tests.1) in
      let usage : e.1 ≡ usage_at (command_of r.0) = entry_usage command_laws same_command command_of rs es has distinct e.0 e.1 kept.0 ∙ ap usage_at r.2 in
      let whole : e ≡ (command_of r.0, usage_at (command_of r.0)) = λ i. (r.2 i, usage i) in
      let alone : is_joined_record r.0 ≡ false = sym (joined_here r.0) ∙ sym (ap (is_joined all) whole) ∙ not_true (is_joined all e) tests.0 in
      let same : x ≡ row_of_record all rs r.0 = from.2 ∙ ap row_of_command whole ∙ ap (λ b. cond b (other_row rs) (command_row rs (command_of r.0))) (sym alone) in
      subst (λ y. Member y (map (row_of_record all rs) rs)) (sym same) (Member-map (row_of_record all rs) rs r.0 r.1)

  to_others : (x : CommandRow) (b : Bool) → ltb 0 others.count ≡ b → Member x (cond b (row_of_others others ∷ []) []) → Member x (map (row_of_record all rs) rs)
  to_others x true some m =
      let counted : 0 < length (filter is_joined_record rs) = omega (arith, ltb-true 0 others.count some, ap (λ u. u.count) others_is ∙ count-usage_of (filter is_joined_record rs)) in
      let r = some_member (filter is_joined_record rs) counted in
      let from = Member-from_filter is_joined_record rs r.0 r.1 in
      let is : x ≡ row_of_others others = elim m [ inl e ↦ e | inr n ↦ absurd n ] in
      let same : x ≡ row_of_record all rs r.0 = is ∙ others_row_is r.0 from.1 ∙ ap (λ b. cond b (other_row rs) (command_row rs (command_of r.0))) (sym from.1) in
      subst (λ y. Member y (map (row_of_record all rs) rs)) (sym same) (Member-map (row_of_record all rs) rs r.0 from.0)
  to_others x false none m = absurd m

  -- each row of the table counts a record
  to : (x : CommandRow) → Member x (own_rows all es ++ others_row others) → Member x (map (row_of_record all rs) rs)
  to x m = elim (Member-from_append (own_rows all es) (others_row others) x m) [ inl n ↦ to_own x n | inr n ↦ to_others x (ltb 0 others.count) refl n ]

  back_from : (r : ProcRecord) → Member r rs → (b : Bool) → is_joined_record r ≡ b → Member (cond b (other_row rs) (command_row rs (command_of r))) (own_rows all es ++ others_row others)
  back_from r m true joined =
      let some : ltb 0 others.count ≡ true = lt-ltb 0 others.count (omega (arith, length-Member (filter is_joined_record rs) r (Member-filter is_joined_record rs r joined m), ap (λ u. u.count) others_is ∙ count-usage_of (filter is_joined_record rs))) in
      let last : Member (other_row rs) (others_row others) = subst (λ b. Member (other_row rs) (cond b (row_of_others others ∷ []) [])) (sym some) (inl (sym (others_row_is r joined))) in
      Member-append_right (own_rows all es) (others_row others) (other_row rs) last
  back_from r m false alone =
      let e = entry_of_record command_laws same_command command_of rs es has distinct r m in
      let counted : ltb 0 (usage_at (command_of r)).count ≡ true = lt-ltb 0 _ (omega (arith, length-Member (records_of_command (command_of r) rs) r (in_group command_laws same_command command_of rs es has distinct r m), count-usage_of (records_of_command (command_of r) rs))) in
      let passes : (not (is_joined all (command_of r, usage_at (command_of r))) && is_counted (command_of r, usage_at (command_of r))) ≡ true = (λ i. not ((joined_here r ∙ alone) i) && counted i) in
      Member-append_left (own_rows all es) (others_row others) (command_row rs (command_of r))
      (Member-map row_of_command (filter (λ e. not (is_joined all e) && is_counted e) es) (command_of r, usage_at (command_of r)) (Member-filter (λ e. not (is_joined all e) && is_counted e) es (command_of r, usage_at (command_of r)) passes e))

  -- each record is counted by a row of the table
  back : (x : CommandRow) → Member x (map (row_of_record all rs) rs) → Member x (own_rows all es ++ others_row others)
  back x m =
      let from = Member-from_map (row_of_record all rs) rs x m in
      subst (λ y. Member y (own_rows all es ++ others_row others)) (sym from.2) (back_from from.0 from.1 (is_joined_record from.0) refl)

  -- sorted, the rows of the table are those of the definition
  pub rows_in_order : (order : Order) (xs : List CommandRow) → IsPermutation (own_rows all es ++ others_row others) xs → IsSortedBy (λ x y. is_lt (command_row_cmp order x y)) xs
      → xs ≡ in_order (command_row_cmp order) (map (row_of_record all rs) rs)
  rows_in_order order xs moved sorted =
      let R = own_rows all es ++ others_row others in
      let apart : IsDistinct (eq_by_cmp (command_row_cmp order)) R = rows_distinct order others (filter (λ e. not (is_joined all e) && is_counted e) es) (IsDistinct-keys_filter is_same_command (λ e. not (is_joined all e) && is_counted e) es distinct) in
      is_in_order (command_cmp_total order) (map (row_of_record all rs) rs) xs (ties_are_equal all rs order)
      (ascends-from_sorted (command_cmp_total order) xs (row_of_others no_usage) sorted (IsDistinct-IsPermutation (eq_by_cmp (command_row_cmp order)) (eq_by_cmp_equiv (command_cmp_total order)).symm R xs moved apart))
      (λ z m. to z (Member-from_Contains R z (Contains-permutation xs R z (IsPermutation-sym R xs moved) (Contains-from_Member xs z m))))
      (λ z m. Member-from_Contains xs z (Contains-permutation R xs z moved (Contains-from_Member R z (back z m))))

pub command_rows-turned : (order : Order) (all b : Bool) (rs : List ProcRecord) (xs : List CommandRow) → xs ≡ in_order (command_row_cmp order) (map (row_of_record all rs) rs) → (if b then reverse xs else xs) ≡ command_rows order all b rs
unfolding command_rows
command_rows-turned order all b rs xs is = ap (λ (l : List CommandRow). if b then reverse l else l) is
