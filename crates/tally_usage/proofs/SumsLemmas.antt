-- What the steps of sums keep.
use Rattle.std.proofs.Common.{◌≡◌, ℕ, ◌+◌, ◌<◌, ◌≤◌, ◌^◌, Bool, true, false, cond, List, [], ◌∷◌, ◌++◌, length, take, get_or, All, Some, unwrap_or, refl, sym, ap, subst, ◌∙◌, arith, length-append, length-take-le}
use Rattle.std.proofs.lemmas.Bool.{eqb-true, false≢true}
use Rattle.std.proofs.lemmas.Cmp.{nat_eq_equiv}
use Rattle.std.proofs.lemmas.List.Elements.{All-append, All-take, filter-append}
use Rattle.std.proofs.lemmas.Map.Entries.{lookup_head, lookup_tail}
use Rattle.std.proofs.lemmas.Map.Keys.{IsDistinct-head}
use Rattle.std.specs.Cmp.{IsEquivalence}
use Rattle.std.specs.List.{AllByRecursion, IsDistinct}
use Rattle.std.specs.Map.{keys_of, lookup}
use Rattle.std.specs.Prelude.{nat_eq}
use Rattle.tally_records.specs.ProcRecord.{IsBounded}
use Rattle.tally_records.specs.declared.process.ProcRecord.{ProcRecord}
use Rattle.tally_usage.specs.declared.command.Command.{Command}
use Rattle.tally_usage.specs.declared.usage.TheConstants.{SUMS_LIMIT}
use Rattle.tally_usage.specs.declared.usage.Usage.{Usage}
use Rattle.tally_usage.specs.Command.{command_of, is_same_command}
use Rattle.tally_usage.specs.Sums.{AreSumsOf, Counted}
use Rattle.tally_usage.specs.Totals.{HasMore, HasTotals, records_with, usage_at}
use Rattle.tally_usage.specs.Usage.{no_usage, plus, usage_of}
use Rattle.tally_usage.specs.inside.Keys.{same_command}
use Rattle.tally_usage.specs.inside.Usage.{Fits}
use Rattle.tally_usage.proofs.CommandLemmas.{command_laws}
use Rattle.tally_usage.proofs.SummaryLemmas.{empty-HasTotals}
use Rattle.tally_usage.proofs.TotalsLemmas.{plus-none, record-counted, total-counted}
use Rattle.tally_usage.proofs.UsageLemmas.{count-usage_of, filter-Fits, usage_of-append, usage_of-Fits, usage_of-none}

-- sums of nothing
pub no-sums : (s : Counted) → s.commands ≡ [] → s.users ≡ [] → s.total ≡ no_usage → AreSumsOf s []
no-sums s commands users total = record {
  few = omega arith;
  bounded = λ k d l. absurd (omega (arith, l));
  total = total ∙ sym usage_of-none;
  commands = subst (λ es. HasTotals is_same_command command_of es []) (sym commands) (empty-HasTotals is_same_command command_of);
  users = subst (λ es. HasTotals nat_eq (λ r. r.uid) es []) (sym users) (empty-HasTotals nat_eq (λ r. r.uid));
}

-- how many records were counted is known
pub count_is : (s : Counted) (rs : List ProcRecord) → AreSumsOf s rs → s.total.count ≡ length rs
count_is s rs sums = ap (λ u. u.count) sums.total ∙ count-usage_of rs

-- records that come, where they are not too many
module _ (s : Counted) (rs more : List ProcRecord) (sums : AreSumsOf s rs) where
  pub length-both : length (rs ++ more) ≡ s.total.count + length more
  length-both = length-append rs more ∙ ap (λ n. n + length more) (sym (count_is s rs sums))

  pub bounded-both : All IsBounded more → All IsBounded (rs ++ more)
  bounded-both bounded = All-append IsBounded rs more sums.bounded bounded

-- the sums of records up to one of them, and then that one
pub one-counted : (s t : Counted) (rs : List ProcRecord) (i : ℕ) (d : ProcRecord) (command : Command) (user : ℕ) (v : Usage) → All IsBounded rs → length rs ≤ SUMS_LIMIT → i < length rs
    → command ≡ command_of (get_or rs i d) → user ≡ (get_or rs i d).uid → v ≡ usage_of (get_or rs i d ∷ [])
    → HasMore is_same_command s.commands t.commands command v → HasMore nat_eq s.users t.users user v → t.total ≡ plus s.total v → AreSumsOf s (take i rs) → AreSumsOf t (take (i + 1) rs)
one-counted s t rs i d command user v bounded few within is_command is_user is_one commands users total sums = record {
  few = omega (arith, length-take-le (i + 1) rs);
  bounded = All-take IsBounded (i + 1) rs bounded;
  total = total ∙ total-counted rs i d s.total v sums.total within is_one;
  commands = record-counted command_laws same_command command_of s.commands t.commands rs i d command v sums.commands within is_command is_one commands;
  users = record-counted nat_eq_equiv eqb-true (λ (r : ProcRecord). r.uid) s.users t.users rs i d user v sums.users within is_user is_one users;
}

-- ---- tables that are joined

-- no key of entries with other keys
absent : {K : Type 0} {eq : K → K → Bool} (exact : (x y : K) → eq x y ≡ true → x ≡ y) (k q : K) (es : List (K × Usage)) → eq q k ≡ true → AllByRecursion (λ y. eq k y ≡ false) (keys_of es) → usage_at eq es q ≡ no_usage
absent exact k q [] same apart = refl
absent {K} {eq} exact k q (e ∷ es) same apart = by (eq q e.0) refl (absent exact k q es same apart.1)
  where
    by : (b : Bool) → eq q e.0 ≡ b → usage_at eq es q ≡ no_usage → usage_at eq (e ∷ es) q ≡ no_usage
    by true is rest = absurd (false≢true (sym apart.0 ∙ ap (λ x. eq x e.0) (sym (exact q k same)) ∙ is))
    by false is rest = ap (λ o. unwrap_or o no_usage) (lookup_tail (eq q) e es is) ∙ rest

module _ {K : Type 0} {eq : K → K → Bool} (laws : IsEquivalence eq) (exact : (x y : K) → eq x y ≡ true → x ≡ y) (k : K) (u : Usage) (rest : List (K × Usage)) where
  -- an entry at its own key
  usage-own : (q : K) → eq q k ≡ true → usage_at eq ((k, u) ∷ rest) q ≡ u
  usage-own q same = ap (λ o. unwrap_or o no_usage) (lookup_head (eq q) (k, u) rest same)

  usage-other : (q : K) → eq q k ≡ false → usage_at eq ((k, u) ∷ rest) q ≡ usage_at eq rest q
  usage-other q other = ap (λ o. unwrap_or o no_usage) (lookup_tail (eq q) (k, u) rest other)

  -- an entry is counted in a table, and the others are left
  pub group-counted : (old new : List (K × Usage)) → IsDistinct eq (keys_of ((k, u) ∷ rest)) → HasMore eq old new k u → (q : K)
      → plus (usage_at eq new q) (usage_at eq rest q) ≡ plus (usage_at eq old q) (usage_at eq ((k, u) ∷ rest) q)
  group-counted old new apart more q = by (eq k q) refl
    where
      by : (b : Bool) → eq k q ≡ b → plus (usage_at eq new q) (usage_at eq rest q) ≡ plus (usage_at eq old q) (usage_at eq ((k, u) ∷ rest) q)
      by true e =
          let same : eq q k ≡ true = laws.symm q k ∙ e in
          let is : k ≡ q = exact k q e in
          let now : usage_at eq new q ≡ plus (usage_at eq old q) u = ap (λ o. unwrap_or o no_usage) (more.at q ∙ ap (λ b. cond b (Some (plus (usage_at eq old k) u)) (lookup (eq q) old)) e) ∙ ap (λ x. plus (usage_at eq old x) u) is in
          ap (λ v. plus (usage_at eq new q) v) (absent exact k q rest same (IsDistinct-head eq k (keys_of rest) apart)) ∙ plus-none _ ∙ now ∙ ap (plus (usage_at eq old q)) (sym (usage-own q same))
      by false e =
          let other : eq q k ≡ false = laws.symm q k ∙ e in
          let now : usage_at eq new q ≡ usage_at eq old q = ap (λ o. unwrap_or o no_usage) (more.at q ∙ ap (λ b. cond b (Some (plus (usage_at eq old k) u)) (lookup (eq q) old)) e) in
          (λ j. plus (now j) (sym (usage-other q other) j))

  -- what both tables have for the key fits where all do
  pub group-Fits : (now old other : List (K × Usage)) → ((q : K) → plus (usage_at eq now q) (usage_at eq ((k, u) ∷ rest) q) ≡ plus (usage_at eq old q) (usage_at eq other q))
      → ((q : K) → Fits (plus (usage_at eq old q) (usage_at eq other q))) → Fits (plus (usage_at eq now k) u)
  group-Fits now old other sums fits = subst Fits (sym (sums k) ∙ ap (plus (usage_at eq now k)) (usage-own k (laws.refl k))) (fits k)

-- what two tables have for a key is what the records of both used
module _ {K : Type 0} (eq : K → K → Bool) (key_of : ProcRecord → K) (old other : List (K × Usage)) (rs ss : List ProcRecord) (has : HasTotals eq key_of old rs) (too : HasTotals eq key_of other ss) where
  both-at : (k : K) → plus (usage_at eq old k) (usage_at eq other k) ≡ usage_of (records_with eq key_of k (rs ++ ss))
  both-at k = (λ j. plus (has.at k j) (too.at k j)) ∙ sym (usage_of-append (records_with eq key_of k rs) (records_with eq key_of k ss)) ∙ ap usage_of (sym (filter-append (λ r. eq k (key_of r)) rs ss))

  pub both-Fits : All IsBounded (rs ++ ss) → length (rs ++ ss) ≤ 2 ^ 28 → (k : K) → Fits (plus (usage_at eq old k) (usage_at eq other k))
  both-Fits bounded few k = subst Fits (sym (both-at k)) (filter-Fits (λ r. eq k (key_of r)) (rs ++ ss) bounded few)

  pub both-HasTotals : (new : List (K × Usage)) → ((k : K) → usage_at eq new k ≡ plus (usage_at eq old k) (usage_at eq other k)) → HasTotals eq key_of new (rs ++ ss)
  both-HasTotals new sums = record { at = λ k. sums k ∙ both-at k }

-- sums of no records, and the others as they are
pub joined_to_none : (s t : Counted) (rs ss : List ProcRecord) → s.total.count ≡ 0 → AreSumsOf s rs → AreSumsOf t ss → AreSumsOf t (rs ++ ss)
joined_to_none s t [] ss none sums too = too
joined_to_none s t (r ∷ rs) ss none sums too = absurd (omega (arith, none, count_is s (r ∷ rs) sums))

-- sums that are joined
module _ (s o : Counted) (rs ss : List ProcRecord) (sums : AreSumsOf s rs) (too : AreSumsOf o ss) (few : s.total.count + o.total.count ≤ SUMS_LIMIT) where
  pub few-both : length (rs ++ ss) ≤ SUMS_LIMIT
  few-both = omega (arith, few, length-append rs ss, count_is s rs sums, count_is o ss too)

  pub all-bounded : All IsBounded (rs ++ ss)
  all-bounded = All-append IsBounded rs ss sums.bounded too.bounded

  pub total-both-Fits : Fits (plus s.total o.total)
  total-both-Fits = subst Fits (usage_of-append rs ss ∙ (λ j. plus (sym sums.total j) (sym too.total j))) (usage_of-Fits (rs ++ ss) all-bounded few-both)

  pub both-counted : (t : Counted) → ((k : Command) → usage_at is_same_command t.commands k ≡ plus (usage_at is_same_command s.commands k) (usage_at is_same_command o.commands k))
      → ((k : ℕ) → usage_at nat_eq t.users k ≡ plus (usage_at nat_eq s.users k) (usage_at nat_eq o.users k)) → t.total ≡ plus s.total o.total → AreSumsOf t (rs ++ ss)
  both-counted t commands users total = record {
    few = few-both;
    bounded = all-bounded;
    total = total ∙ (λ j. plus (sums.total j) (too.total j)) ∙ sym (usage_of-append rs ss);
    commands = both-HasTotals is_same_command command_of s.commands o.commands rs ss sums.commands too.commands t.commands commands;
    users = both-HasTotals nat_eq (λ (r : ProcRecord). r.uid) s.users o.users rs ss sums.users too.users t.users users;
  }
