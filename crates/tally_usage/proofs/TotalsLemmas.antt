-- What keeps a table of groups right: a record that is counted in its group, or as the first of its group.
use Rattle.std.proofs.Common.{◌≡◌, ℕ, ◌+◌, ◌-◌, ◌<◌, ◌≤◌, ◌^◌, Bool, true, false, cond, List, [], ◌∷◌, ◌++◌, length, take, get_or, slice_get, position, All, Option, None, Some, IfSome, unwrap_or, refl, sym, ap, subst, ◌∙◌, arith, length-append, length-take-le}
use Rattle.std.specs.Cmp.{IsEquivalence}
use Rattle.std.specs.Map.{keys_of, lookup}
use Rattle.std.specs.Option.{option_map}
use Rattle.std.proofs.lemmas.List.Quantifiers.{position-Some}
use Rattle.std.proofs.lemmas.Map.Views.{lookup-from_Contains}
use Rattle.std.proofs.lemmas.Option.{get_or_from_slice_get, slice_get-get_or, slice_get-map, slice_get_within}
use Rattle.indexmap.specs.IndexMap.{IndexMap, IsUnique, get, index_map_len, insert_entry, keys, set_value_at}
use Rattle.indexmap.proofs.CallerLemmas.{insert_entry-new, updates-with_value_at}
use Rattle.std.specs.Prelude.{OnOk, Ok, Result}
use Rattle.std.proofs.lemmas.List.{take_more, map-append, length-map}
use Rattle.std.proofs.Math.Seq.{get_or-append_seam}
use Rattle.std.proofs.lemmas.List.Elements.{filter-append, All-take}
use Rattle.tally_records.specs.declared.process.ProcRecord.{ProcRecord}
use Rattle.tally_records.specs.ProcRecord.{IsBounded}
use Rattle.tally_usage.specs.declared.usage.Usage.{Usage}
use Rattle.tally_usage.specs.inside.Usage.{Fits}
use Rattle.tally_usage.specs.Usage.{no_usage, plus, usage_of}
use Rattle.tally_usage.specs.Totals.{HasMore, HasTotals, records_with, usage_at}
use Rattle.tally_usage.proofs.UsageLemmas.{usage_of-append, usage_of-none, usage_of-Fits, filter-Fits}

-- the records up to one of them are few and bounded
front-bounded : (rs : List ProcRecord) (i : ℕ) (d : ProcRecord) → All IsBounded rs → i < length rs → All IsBounded (take i rs ++ get_or rs i d ∷ [])
front-bounded rs i d bounded within = subst (All IsBounded) (take_more rs i d within) (All-take IsBounded (i + 1) rs bounded)

front-few : (rs : List ProcRecord) (i : ℕ) (d : ProcRecord) → length rs ≤ 2 ^ 28 → i < length rs → length (take i rs ++ get_or rs i d ∷ []) ≤ 2 ^ 28
front-few rs i d few within = omega (arith, ap length (take_more rs i d within), length-take-le (i + 1) rs)

-- a record, added to the total of those before it
pub total-counted : (rs : List ProcRecord) (i : ℕ) (d : ProcRecord) (t v : Usage) → t ≡ usage_of (take i rs) → i < length rs → v ≡ usage_of (get_or rs i d ∷ []) → plus t v ≡ usage_of (take (i + 1) rs)
total-counted rs i d t v is_total within is_one =
    (λ j. plus (is_total j) (is_one j)) ∙ sym (usage_of-append (take i rs) _) ∙ ap usage_of (sym (take_more rs i d within))

pub total-Fits : (rs : List ProcRecord) (i : ℕ) (d : ProcRecord) (t v : Usage) → t ≡ usage_of (take i rs) → All IsBounded rs → length rs ≤ 2 ^ 28 → i < length rs → v ≡ usage_of (get_or rs i d ∷ []) → Fits (plus t v)
total-Fits rs i d t v is_total bounded few within is_one =
    subst Fits (sym (total-counted rs i d t v is_total within is_one ∙ ap usage_of (take_more rs i d within))) (usage_of-Fits _ (front-bounded rs i d bounded within) (front-few rs i d few within))

pub plus-none : (u : Usage) → plus u no_usage ≡ u
plus-none u = λ i. record {
  count = (let e : u.count + 0 ≡ u.count = omega arith in e) i;
  real = (let e : u.real + 0 ≡ u.real = omega arith in e) i;
  cpu = (let e : u.cpu + 0 ≡ u.cpu = omega arith in e) i;
  io = (let e : u.io + 0 ≡ u.io = omega arith in e) i;
  mem_cpu = (let e : u.mem_cpu + 0 ≡ u.mem_cpu = omega arith in e) i;
}

module _ {K : Type 0} {eq : K → K → Bool} (laws : IsEquivalence eq) (exact : (x y : K) → eq x y ≡ true → x ≡ y) (key_of : ProcRecord → K) where
  -- the usage of a group, once a record follows
  usage-push : (k : K) (rs : List ProcRecord) (r : ProcRecord) → usage_of (records_with eq key_of k (rs ++ r ∷ [])) ≡ plus (usage_of (records_with eq key_of k rs)) (usage_of (cond (eq k (key_of r)) (r ∷ []) []))
  usage-push k rs r = ap usage_of (filter-append (λ x. eq k (key_of x)) rs (r ∷ [])) ∙ usage_of-append (records_with eq key_of k rs) _

  usage-push_own : (rs : List ProcRecord) (r : ProcRecord) (k : K) → eq k (key_of r) ≡ true → usage_of (records_with eq key_of k (rs ++ r ∷ [])) ≡ plus (usage_of (records_with eq key_of k rs)) (usage_of (r ∷ []))
  usage-push_own rs r k e = usage-push k rs r ∙ ap (λ b. plus (usage_of (records_with eq key_of k rs)) (usage_of (cond b (r ∷ []) []))) e

  usage-push_other : (rs : List ProcRecord) (r : ProcRecord) (k : K) → eq k (key_of r) ≡ false → usage_of (records_with eq key_of k (rs ++ r ∷ [])) ≡ usage_of (records_with eq key_of k rs)
  usage-push_other rs r k e =
      usage-push k rs r ∙ ap (λ b. plus (usage_of (records_with eq key_of k rs)) (usage_of (cond b (r ∷ []) []))) e
      ∙ ap (plus (usage_of (records_with eq key_of k rs))) usage_of-none ∙ plus-none _

  -- a record is counted
  pub HasTotals-count : (old new : List (K × Usage)) (rs : List ProcRecord) (r : ProcRecord) → HasTotals eq key_of old rs → HasMore eq old new (key_of r) (usage_of (r ∷ [])) → HasTotals eq key_of new (rs ++ r ∷ [])
  HasTotals-count old new rs r has more = record { at = λ q. by q (eq (key_of r) q) refl }
    where
      by : (q : K) (b : Bool) → eq (key_of r) q ≡ b → usage_at eq new q ≡ usage_of (records_with eq key_of q (rs ++ r ∷ []))
      by q true e =
          let same : key_of r ≡ q = exact _ _ e in
          let was : usage_of (records_with eq key_of q rs) ≡ usage_at eq old (key_of r) = subst (λ k. usage_of (records_with eq key_of k rs) ≡ usage_at eq old (key_of r)) same (sym (has.at (key_of r))) in
          ap (λ o. unwrap_or o no_usage) (more.at q ∙ ap (λ b. cond b (Some (plus (usage_at eq old (key_of r)) (usage_of (r ∷ [])))) (lookup (eq q) old)) e)
          ∙ sym (usage-push_own rs r q (laws.symm q (key_of r) ∙ e) ∙ ap (λ v. plus v (usage_of (r ∷ []))) was)
      by q false e =
          ap (λ o. unwrap_or o no_usage) (more.at q ∙ ap (λ b. cond b (Some (plus (usage_at eq old (key_of r)) (usage_of (r ∷ [])))) (lookup (eq q) old)) e)
          ∙ has.at q ∙ sym (usage-push_other rs r q (laws.symm q (key_of r) ∙ e))

  -- the usage of a record, added to what its group has, fits
  pub record-Fits : (totals : List (K × Usage)) (rs : List ProcRecord) (i : ℕ) (d : ProcRecord) (k : K) (v : Usage) → HasTotals eq key_of totals (take i rs) → All IsBounded rs → length rs ≤ 2 ^ 28
      → i < length rs → k ≡ key_of (get_or rs i d) → v ≡ usage_of (get_or rs i d ∷ []) → Fits (plus (usage_at eq totals k) v)
  record-Fits totals rs i d k v has bounded few within is_key is_one =
      let r = get_or rs i d in
      let sum : usage_of (records_with eq key_of (key_of r) (take i rs ++ r ∷ [])) ≡ plus (usage_at eq totals k) v =
      usage-push_own (take i rs) r (key_of r) (laws.refl (key_of r)) ∙ (λ j. plus (sym (has.at (key_of r)) j) (usage_of (r ∷ []))) ∙ (λ j. plus (usage_at eq totals (sym is_key j)) (sym is_one j)) in
      subst Fits sum (filter-Fits (λ x. eq (key_of r) (key_of x)) (take i rs ++ r ∷ []) (front-bounded rs i d bounded within) (front-few rs i d few within))

  -- a record is counted: its usage is added to what its group has, if anything
  pub record-counted : (old new : List (K × Usage)) (rs : List ProcRecord) (i : ℕ) (d : ProcRecord) (k : K) (v : Usage) → HasTotals eq key_of old (take i rs)
      → i < length rs → k ≡ key_of (get_or rs i d) → v ≡ usage_of (get_or rs i d ∷ []) → HasMore eq old new k v → HasTotals eq key_of new (take (i + 1) rs)
  record-counted old new rs i d k v has within is_key is_one more =
      let r = get_or rs i d in
      subst (HasTotals eq key_of new) (sym (take_more rs i d within))
      (HasTotals-count old new (take i rs) r has (subst (λ w. HasMore eq old new (key_of r) w) is_one (subst (λ j. HasMore eq old new j v) is_key more)))

-- where a key is, as its place among the keys says
pub found_key : {K : Type 0} {eq : K → K → Bool} → ((x y : K) → eq x y ≡ true → x ≡ y) → (ks : List K) (k : K) (o : Option ℕ) → o ≡ position (eq k) ks → IfSome o (λ i. slice_get ks i ≡ Some k)
found_key exact ks k None e = tt
found_key {K} {eq} exact ks k (Some i) e =
    let found = position-Some (eq k) ks i k (sym e) in
    slice_get-get_or ks i k found.0 ∙ ap Some (sym (exact k (get_or ks i k) found.1))

-- the entry at a key's place
module _ {K S : Type 0} {eq : K → K → Bool} (laws : IsEquivalence eq) (m : IndexMap K Usage S) (i : ℕ) (k own : K) (u : Usage) (unique : IsUnique eq m) (place : slice_get (keys m) i ≡ Some k) (entry : slice_get m.entries i ≡ Some (own, u)) where
  own_is : own ≡ k
  own_is = let e : Some own ≡ Some k = ap (option_map (λ (p : K × Usage). p.0)) (sym entry) ∙ sym (slice_get-map (λ (p : K × Usage). p.0) m.entries i) ∙ place in cc

  entry_is : slice_get m.entries i ≡ Some (k, u)
  entry_is = entry ∙ (λ j. Some (own_is j, u))

  pub lookup_at : lookup (eq k) m.entries ≡ Some u
  lookup_at = lookup-from_Contains laws k u m.entries unique (i, slice_get_within m.entries i (k, u) entry_is, get_or_from_slice_get m.entries i (k, u) (k, u) entry_is)

  pub Fits_at : (more : Usage) → Fits (plus (usage_at eq m.entries k) more) → Fits (plus u more)
  Fits_at more fits = subst (λ o. Fits (plus (unwrap_or o no_usage) more)) lookup_at fits

  pub HasMore_at : (w more : Usage) → w ≡ plus u more → HasMore eq m.entries (set_value_at m.entries i w) k more
  HasMore_at w more is_sum = record {
    at = λ q. (updates-with_value_at m i w laws unique k u entry_is).0 q
        ∙ ap (λ v. cond (eq k q) (Some v) (lookup (eq q) m.entries)) (is_sum ∙ ap (λ v. plus v more) (sym (ap (λ o. unwrap_or o no_usage) lookup_at)));
  }

-- a key that is inserted comes after the others
module _ {K S : Type 0} (eq : K → K → Bool) (m n : IndexMap K Usage S) (key : K) (absent : get eq m key ≡ None) where
  pub keys-added : {E : Type 0} {old : Option Usage} {r : Result (Option Usage) E} (more : Usage) → r ≡ Ok old → OnOk r (n.entries ≡ insert_entry eq m.entries key more) → keys n ≡ keys m ++ key ∷ []
  keys-added more is inserted =
      let added = subst (λ r. OnOk r (n.entries ≡ insert_entry eq m.entries key more)) is inserted ∙ insert_entry-new eq m key more absent in
      ap keys_of added ∙ map-append (λ (e : K × Usage). e.0) m.entries ((key, more) ∷ [])

-- where the last of the keys stands
pub last_key : {K S : Type 0} (m : IndexMap K Usage S) (before : List K) (key : K) (n : ℕ) → keys m ≡ before ++ key ∷ [] → n ≡ index_map_len m → slice_get (keys m) (n - 1) ≡ Some key
last_key m before key n is count =
    let place : n - 1 ≡ length before = omega (arith, count, ap length is, length-append before (key ∷ []), length-map m.entries (λ e. e.0)) in
    ap (λ ks. slice_get ks (n - 1)) is ∙ ap (slice_get (before ++ key ∷ [])) place
    ∙ slice_get-get_or (before ++ key ∷ []) (length before) key (omega (arith, length-append before (key ∷ []))) ∙ ap Some (get_or-append_seam before key [] key)
