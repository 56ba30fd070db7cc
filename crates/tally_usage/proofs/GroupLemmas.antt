-- A table that has the totals of some records has an entry for each group of these, with its usage.
use Rattle.std.proofs.Common.{◌≡◌, ◌+◌, ◌<◌, Bool, true, false, cond, ◌||◌, List, [], ◌∷◌, filter, Option, None, Some, unwrap_or, refl, sym, ap, subst, ◌∙◌, inl, inr, arith}
use Rattle.std.proofs.lemmas.Bool.{false≢true}
use Rattle.std.proofs.lemmas.List.Sums.{sum_by-cons}
use Rattle.std.proofs.lemmas.Map.Keys.{IsDistinct-head, IsDistinct-tail}
use Rattle.std.proofs.lemmas.Map.Made.{IsDistinct-keys_filter}
use Rattle.std.proofs.lemmas.Map.Views.{Contains-from_any, Contains-from_lookup, list_any-from_Contains, lookup-from_Contains}
use Rattle.std.specs.Cmp.{IsEquivalence, both_ways}
use Rattle.std.specs.List.{AllByRecursion, IsDistinct, list_any}
use Rattle.std.specs.Map.{keys_of, lookup}
use Rattle.std.specs.Set.{is_member}
use Rattle.tally_records.specs.declared.process.ProcRecord.{ProcRecord}
use Rattle.tally_usage.specs.declared.usage.Usage.{Usage}
use Rattle.tally_usage.specs.inside.Rows.{joined_usage}
use Rattle.tally_usage.specs.Totals.{HasTotals, records_with}
use Rattle.tally_usage.specs.Usage.{no_usage, plus, usage_of}
use Rattle.tally_records.proofs.Members.{Member, Member-from_Contains, Contains-from_Member, Member-map, Member-from_map, Member-filter, Member-from_filter, some_member, length-Member, filter-same}
use Rattle.tally_usage.proofs.TotalsLemmas.{plus-none}
use Rattle.tally_usage.proofs.UsageLemmas.{usage_of-none, usage_of-append, count-usage_of}

-- ---- sums of usages

pub joined_usage-cons : {K : Type 0} (e : K × Usage) (es : List (K × Usage)) → joined_usage (e ∷ es) ≡ plus e.1 (joined_usage es)
unfolding joined_usage
joined_usage-cons {K} e es = λ i. record {
  count = sum_by-cons (λ (x : K × Usage). x.1.count) e es i;
  real = sum_by-cons (λ (x : K × Usage). x.1.real) e es i;
  cpu = sum_by-cons (λ (x : K × Usage). x.1.cpu) e es i;
  io = sum_by-cons (λ (x : K × Usage). x.1.io) e es i;
  mem_cpu = sum_by-cons (λ (x : K × Usage). x.1.mem_cpu) e es i;
}

pub joined_usage-none : (K : Type 0) → joined_usage {K = K} [] ≡ no_usage
unfolding joined_usage
joined_usage-none K = refl

pub plus_assoc : (u v w : Usage) → plus (plus u v) w ≡ plus u (plus v w)
plus_assoc u v w = λ i. record {
  count = (let e : (u.count + v.count) + w.count ≡ u.count + (v.count + w.count) = omega arith in e) i;
  real = (let e : (u.real + v.real) + w.real ≡ u.real + (v.real + w.real) = omega arith in e) i;
  cpu = (let e : (u.cpu + v.cpu) + w.cpu ≡ u.cpu + (v.cpu + w.cpu) = omega arith in e) i;
  io = (let e : (u.io + v.io) + w.io ≡ u.io + (v.io + w.io) = omega arith in e) i;
  mem_cpu = (let e : (u.mem_cpu + v.mem_cpu) + w.mem_cpu ≡ u.mem_cpu + (v.mem_cpu + w.mem_cpu) = omega arith in e) i;
}

pub plus_comm : (u v : Usage) → plus u v ≡ plus v u
plus_comm u v = λ i. record {
  count = (let e : u.count + v.count ≡ v.count + u.count = omega arith in e) i;
  real = (let e : u.real + v.real ≡ v.real + u.real = omega arith in e) i;
  cpu = (let e : u.cpu + v.cpu ≡ v.cpu + u.cpu = omega arith in e) i;
  io = (let e : u.io + v.io ≡ v.io + u.io = omega arith in e) i;
  mem_cpu = (let e : u.mem_cpu + v.mem_cpu ≡ v.mem_cpu + u.mem_cpu = omega arith in e) i;
}

usage_of-cons : (r : ProcRecord) (rs : List ProcRecord) → usage_of (r ∷ rs) ≡ plus (usage_of (r ∷ [])) (usage_of rs)
usage_of-cons r rs = usage_of-append (r ∷ []) rs

-- what passes one of two tests that exclude each other
usage_of-either : (p q t : ProcRecord → Bool) → ((r : ProcRecord) → p r ≡ true → q r ≡ false) → ((r : ProcRecord) → t r ≡ (p r || q r)) → (rs : List ProcRecord)
    → plus (usage_of (filter p rs)) (usage_of (filter q rs)) ≡ usage_of (filter t rs)
usage_of-either p q t apart either [] = (λ i. plus (usage_of-none i) (usage_of-none i)) ∙ plus-none no_usage ∙ sym usage_of-none
usage_of-either p q t apart either (r ∷ rs) = by (p r) (q r) (apart r) (usage_of-either p q t apart either rs) ∙ ap (λ b. usage_of (cond b (r ∷ filter t rs) (filter t rs))) (sym (either r))
  where
    by : (a b : Bool) → (a ≡ true → b ≡ false) → plus (usage_of (filter p rs)) (usage_of (filter q rs)) ≡ usage_of (filter t rs)
        → plus (usage_of (cond a (r ∷ filter p rs) (filter p rs))) (usage_of (cond b (r ∷ filter q rs) (filter q rs))) ≡ usage_of (cond (a || b) (r ∷ filter t rs) (filter t rs))
    by true true never next = absurd (false≢true (sym (never refl)))
    by true false never next =
        ap (λ u. plus u (usage_of (filter q rs))) (usage_of-cons r (filter p rs)) ∙ plus_assoc (usage_of (r ∷ [])) (usage_of (filter p rs)) (usage_of (filter q rs))
        ∙ ap (plus (usage_of (r ∷ []))) next ∙ sym (usage_of-cons r (filter t rs))
    by false true never next =
        plus_comm (usage_of (filter p rs)) _ ∙ ap (λ u. plus u (usage_of (filter p rs))) (usage_of-cons r (filter q rs)) ∙ plus_assoc (usage_of (r ∷ [])) (usage_of (filter q rs)) (usage_of (filter p rs))
        ∙ ap (plus (usage_of (r ∷ []))) (plus_comm (usage_of (filter q rs)) (usage_of (filter p rs)) ∙ next) ∙ sym (usage_of-cons r (filter t rs))
    by false false never next = next

filter-never : {X : Type 0} (xs : List X) → filter (λ x. false) xs ≡ []
filter-never [] = refl
filter-never (x ∷ xs) = filter-never xs

pub list_any-none : {K : Type 0} (p : K → Bool) (ks : List K) → AllByRecursion (λ k. p k ≡ false) ks → list_any p ks ≡ false
list_any-none p [] none = refl
list_any-none p (k ∷ ks) none = (λ i. none.0 i || list_any p ks) ∙ list_any-none p ks none.1

module _ {K : Type 0} {eq : K → K → Bool} (laws : IsEquivalence eq) (exact : (x y : K) → eq x y ≡ true → x ≡ y) (key_of : ProcRecord → K) (rs : List ProcRecord) where
  abbrev group : K → List ProcRecord
  group k = records_with eq key_of k rs

  -- entries of different groups together
  groups_joined : (fs : List (K × Usage)) → IsDistinct eq (keys_of fs) → ((k : K) (u : Usage) → Member (k, u) fs → u ≡ usage_of (group k))
      → joined_usage fs ≡ usage_of (filter (λ r. is_member eq (keys_of fs) (key_of r)) rs)
  groups_joined [] distinct each = joined_usage-none K ∙ sym usage_of-none ∙ ap usage_of (sym (filter-never rs))
  groups_joined (f ∷ fs) distinct each =
      joined_usage-cons f fs
      ∙ (λ i. plus (each f.0 f.1 (inl refl) i) (groups_joined fs (IsDistinct-tail eq f.0 (keys_of fs) distinct) (λ k u m. each k u (inr m)) i))
      ∙ usage_of-either (λ r. eq f.0 (key_of r)) (λ r. is_member eq (keys_of fs) (key_of r)) (λ r. is_member eq (keys_of (f ∷ fs)) (key_of r))
      (λ r same. subst (λ k. list_any (eq k) (keys_of fs) ≡ false) (exact f.0 (key_of r) same) (list_any-none (eq f.0) (keys_of fs) (IsDistinct-head eq f.0 (keys_of fs) distinct)))
      (λ r. ap (λ b. b || list_any (eq (key_of r)) (keys_of fs)) (laws.symm (key_of r) f.0)) rs

  module _ (es : List (K × Usage)) (has : HasTotals eq key_of es rs) (distinct : IsDistinct eq (keys_of es)) where
    -- an entry has the usage of its group
    pub entry_usage : (k : K) (u : Usage) → Member (k, u) es → u ≡ usage_of (group k)
    entry_usage k u m = sym (ap (λ o. unwrap_or o no_usage) (lookup-from_Contains laws k u es distinct (Contains-from_Member es (k, u) m))) ∙ has.at k

    -- a record is in its group
    pub in_group : (r : ProcRecord) → Member r rs → Member r (group (key_of r))
    in_group r m = Member-filter (λ x. eq (key_of r) (key_of x)) rs r (laws.refl (key_of r)) m

    -- each record's group has an entry
    pub entry_of_record : (r : ProcRecord) → Member r rs → Member (key_of r, usage_of (group (key_of r))) es
    entry_of_record r m = Member-from_Contains es _ (Contains-from_lookup exact (key_of r) (usage_of (group (key_of r))) es (by (lookup (eq (key_of r)) es) refl))
      where
        by : (o : Option Usage) → lookup (eq (key_of r)) es ≡ o → lookup (eq (key_of r)) es ≡ Some (usage_of (group (key_of r)))
        by None e = absurd (omega (arith, length-Member (group (key_of r)) r (in_group r m), ap (λ u. u.count) (sym (ap (λ o. unwrap_or o no_usage) e) ∙ has.at (key_of r)) ∙ count-usage_of (group (key_of r))))
        by (Some u) e = e ∙ ap Some (sym (ap (λ o. unwrap_or o no_usage) e) ∙ has.at (key_of r))

    -- an entry that counts a record is that record's
    pub record_of_entry : (k : K) (u : Usage) → Member (k, u) es → 0 < u.count → (r : ProcRecord) × Member r rs × (k ≡ key_of r)
    record_of_entry k u m counted =
        let some = some_member (group k) (omega (arith, counted, ap (λ v. v.count) (entry_usage k u m) ∙ count-usage_of (group k))) in
        let from = Member-from_filter (λ x. eq k (key_of x)) rs some.0 some.1 in
        (some.0, from.0, exact k (key_of some.0) from.1)

    -- the entries that pass a test are those of the records whose group passes it
    pub joined_usage-filter : (p : K × Usage → Bool) → joined_usage (filter p es) ≡ usage_of (filter (λ r. p (key_of r, usage_of (group (key_of r)))) rs)
    joined_usage-filter p =
        groups_joined (filter p es) (IsDistinct-keys_filter eq p es distinct) (λ k u m. entry_usage k u (Member-from_filter p es (k, u) m).0)
        ∙ ap usage_of (filter-same (λ r. is_member eq (keys_of (filter p es)) (key_of r)) (λ r. p (key_of r, usage_of (group (key_of r)))) rs (λ r m. both_ways _ _ (to r m) (back r m)))
      where
        to : (r : ProcRecord) → Member r rs → is_member eq (keys_of (filter p es)) (key_of r) ≡ true → p (key_of r, usage_of (group (key_of r))) ≡ true
        to r m found =
            let key = Member-from_map (λ (e : K × Usage). e.0) (filter p es) (key_of r) (Member-from_Contains (keys_of (filter p es)) (key_of r) (Contains-from_any exact (key_of r) (keys_of (filter p es)) found)) in
            let from = Member-from_filter p es key.0 key.1 in
            let usage : key.0.1 ≡ usage_of (group (key_of r)) = entry_usage key.0.0 key.0.1 from.0 ∙ ap (λ k. usage_of (group k)) (sym key.2) in
            let whole : key.0 ≡ (key_of r, usage_of (group (key_of r))) = (let same : key.0.0 ≡ key_of r = sym key.2 in λ i. (same i, usage i)) in
            sym (ap p whole) ∙ from.1

        back : (r : ProcRecord) → Member r rs → p (key_of r, usage_of (group (key_of r))) ≡ true → is_member eq (keys_of (filter p es)) (key_of r) ≡ true
        back r m passes =
            list_any-from_Contains laws (key_of r) (keys_of (filter p es))
            (Contains-from_Member (keys_of (filter p es)) (key_of r) (Member-map (λ (e : K × Usage). e.0) (filter p es) _ (Member-filter p es _ passes (entry_of_record r m))))
