-- Counting records by their users and remote hosts.
use Rattle.std.proofs.Common.{◌≡◌, ℕ, zero, suc, ◌+◌, ◌<◌, ◌≤◌, ◌^◌, Bool, true, false, cond, not, List, [], ◌∷◌, ◌++◌, filter, get_or, length, slice_get, take, None, Some, unwrap_or, refl, sym, ap, subst, ◌∙◌, arith, add-zero, length-append, pos}
use Rattle.std.proofs.lemmas.Cmp.{and_equiv, nat_list_eq_equiv, on_equiv}
use Rattle.std.proofs.lemmas.List.{append-nil, length-map, length-take-le, take_more}
use Rattle.std.proofs.lemmas.List.Elements.{filter-append}
use Rattle.std.proofs.lemmas.List.Filters.{length-filter_both}
use Rattle.std.proofs.lemmas.Option.{slice_get-get_or}
use Rattle.std.specs.Cmp.{IsEquivalence}
use Rattle.std.specs.Map.{lookup}
use Rattle.tally_attempts.proofs.ChosenLemmas.{attempt_none, attempt_one, chosen_attempts-append}
use Rattle.tally_attempts.specs.Attempts.{is_chosen}
use Rattle.tally_attempts.specs.Sums.{chosen_attempts, is_from}
use Rattle.tally_attempts.specs.declared.source.Source.{Source}
use Rattle.tally_attempts.specs.inside.Counts.{HasCounts, HasOneMore, count_at, count_of, if_some, source_of}
use Rattle.tally_attempts.specs.inside.Latest.{if_chosen}
use Rattle.tally_attempts.specs.inside.Sources.{is_same, same_source}
use Rattle.tally_records.specs.declared.choice.LoginChoice.{LoginChoice}
use Rattle.tally_records.specs.declared.login.LoginRecord.{LoginRecord}
use Rattle.tally_sessions.specs.declared.entry.Entry.{Entry}

-- what a read past the end gives
abbrev no_entry : Entry
no_entry = record { host = 0; item = record { kind = 0; line = []; user = []; remote = []; time = pos 0 } }

pub source_laws : IsEquivalence is_same
source_laws = and_equiv (on_equiv (λ (s : Source). s.user) nat_list_eq_equiv) (on_equiv (λ (s : Source). s.remote) nat_list_eq_equiv)

-- ---- what a table has

unwrap-if_some : (n : ℕ) → unwrap_or (if_some n) 0 ≡ n
unwrap-if_some zero = refl
unwrap-if_some (suc n) = refl

-- the number of a source is the count of its records
pub count_at-is : (table : List (Source × ℕ)) (rs : List LoginRecord) → HasCounts table rs → (s : Source) → count_at table s ≡ count_of s rs
count_at-is table rs has s = ap (λ o. unwrap_or o 0) (has.at s) ∙ unwrap-if_some (count_of s rs)

pub none-HasCounts : (table : List (Source × ℕ)) → table ≡ [] → HasCounts table []
none-HasCounts table is = record { at = λ s. ap (lookup (is_same s)) is }

length-filter-le : {X : Type 0} (p : X → Bool) (xs : List X) → length (filter p xs) ≤ length xs
length-filter-le p xs = omega (arith, length-filter_both p (λ x. not (p x)) (λ x. refl) xs)

-- ---- one record more

if_some-suc : (n : ℕ) → Some (n + 1) ≡ if_some (n + 1)
if_some-suc n = let next : n + 1 ≡ suc n = omega arith in subst (λ m. Some m ≡ if_some m) (sym next) refl

count_of-push : (s : Source) (rs : List LoginRecord) (r : LoginRecord) → count_of s (rs ++ r ∷ []) ≡ count_of s rs + length (cond (is_same s (source_of r)) (r ∷ []) [])
count_of-push s rs r = ap length (filter-append (is_from s.user s.remote) rs (r ∷ [])) ∙ length-append (filter (is_from s.user s.remote) rs) _

pub HasCounts-push : (old new : List (Source × ℕ)) (rs : List LoginRecord) (r : LoginRecord) → HasCounts old rs → HasOneMore old new (source_of r) → HasCounts new (rs ++ r ∷ [])
HasCounts-push old new rs r has more = record { at = λ s. by s (is_same (source_of r) s) refl }
  where
    by : (s : Source) (b : Bool) → is_same (source_of r) s ≡ b → lookup (is_same s) new ≡ if_some (count_of s (rs ++ r ∷ []))
    by s true e =
        let own : source_of r ≡ s = same_source (source_of r) s e in
        let was : count_at old (source_of r) ≡ count_of s rs = ap (count_at old) own ∙ count_at-is old rs has s in
        more.at s ∙ ap (λ b. cond b (Some (count_at old (source_of r) + 1)) (lookup (is_same s) old)) e ∙ ap (λ n. Some (n + 1)) was ∙ if_some-suc (count_of s rs)
        ∙ ap if_some (sym (count_of-push s rs r ∙ ap (λ b. count_of s rs + length (cond b (r ∷ []) [])) (source_laws.symm s (source_of r) ∙ e)))
    by s false e =
        more.at s ∙ ap (λ b. cond b (Some (count_at old (source_of r) + 1)) (lookup (is_same s) old)) e ∙ has.at s
        ∙ ap if_some (sym (count_of-push s rs r ∙ ap (λ b. count_of s rs + length (cond b (r ∷ []) [])) (source_laws.symm s (source_of r) ∙ e) ∙ add-zero (count_of s rs)))

-- ---- going over the entries

module _ (choice : LoginChoice) (es : List Entry) (i : ℕ) (within : i < length es) where
  abbrev entry : Entry
  entry = get_or es i no_entry

  more : chosen_attempts choice (take (i + 1) es) ≡ chosen_attempts choice (take i es) ++ chosen_attempts choice (entry ∷ [])
  more = ap (chosen_attempts choice) (take_more es i no_entry within) ∙ chosen_attempts-append choice (take i es) (entry ∷ [])

  here : if_chosen choice (slice_get es i) ≡ if_chosen choice (Some entry)
  here = ap (if_chosen choice) (slice_get-get_or es i no_entry within)

  pub one_chosen : (r : LoginRecord) → if_chosen choice (slice_get es i) ≡ Some r → chosen_attempts choice (take (i + 1) es) ≡ chosen_attempts choice (take i es) ++ r ∷ []
  one_chosen r is = more ∙ ap (λ (rs : List LoginRecord). chosen_attempts choice (take i es) ++ rs) (attempt_one choice entry r (sym here ∙ is))

  pub none_chosen : if_chosen choice (slice_get es i) ≡ None → chosen_attempts choice (take (i + 1) es) ≡ chosen_attempts choice (take i es)
  none_chosen is =
      more ∙ ap (λ (rs : List LoginRecord). chosen_attempts choice (take i es) ++ rs) (attempt_none choice entry (sym here ∙ is)) ∙ append-nil (chosen_attempts choice (take i es))

-- a number of records before a place, and one more, fit their type
pub count-fits : (choice : LoginChoice) (es : List Entry) (i : ℕ) (table : List (Source × ℕ)) (s : Source) → HasCounts table (chosen_attempts choice (take i es)) → i < length es → length es < 2 ^ 64 → count_at table s + 1 < 2 ^ 64
count-fits choice es i table s has within small =
    let rs = chosen_attempts choice (take i es) in
    omega (arith, count_at-is table rs has s, length-filter-le (is_from s.user s.remote) rs, length-map (filter (λ (e : Entry). is_chosen choice e.item) (take i es)) (λ (e : Entry). e.item), length-filter-le (λ (e : Entry). is_chosen choice e.item) (take i es), length-take-le i es (omega (arith, within)), within, small)
