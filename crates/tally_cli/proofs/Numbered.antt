-- Entries of files, each under its number.
use Rattle.std.proofs.Common.{◌≡◌, ◌≢◌, ℕ, zero, suc, ◌+◌, ◌<◌, ◌≤◌, List, [], ◌∷◌, ◌++◌, length, map, get_or, refl, sym, ap, ◌∙◌, subst, arith, cond, eqb, eq-eqb, ne_eqb}
use Rattle.std.proofs.lemmas.List.{append-nil, map-append}
use Rattle.std.proofs.lemmas.List.Elements.{filter-append}
use Rattle.std.specs.List.{enumerate_from, filter, flat_map}

module _ {E R F : Type 0} (owner_of : E → ℕ) (item_of : E → R) (entry : ℕ → R → E) (owner_is : (n : ℕ) (r : R) → owner_of (entry n r) ≡ n) (item_is : (n : ℕ) (r : R) → item_of (entry n r) ≡ r) (records : F → List R) where
  -- the items of one owner, in order
  abbrev pub owned : ℕ → List E → List R
  owned owner es = map item_of (filter (λ e. eqb (owner_of e) owner) es)

  -- the entries of files from a number on
  abbrev pub joined_from : ℕ → List F → List E
  joined_from n files = flat_map (λ numbered. map (entry numbered.0) (records numbered.1)) (enumerate_from n files)

  owned-append : (owner : ℕ) (xs ys : List E) → owned owner (xs ++ ys) ≡ owned owner xs ++ owned owner ys
  owned-append owner xs ys = ap (map item_of) (filter-append (λ (e : E). eqb (owner_of e) owner) xs ys) ∙ map-append item_of _ _

  own_entries : (n : ℕ) (rs : List R) → owned n (map (entry n) rs) ≡ rs
  own_entries n [] = refl
  own_entries n (r ∷ rs) =
      ap (λ b. map item_of (cond b (entry n r ∷ filter (λ (e : E). eqb (owner_of e) n) (map (entry n) rs)) (filter (λ (e : E). eqb (owner_of e) n) (map (entry n) rs)))) (eq-eqb (owner_of (entry n r)) n (owner_is n r))
      ∙ (λ i. item_is n r i ∷ own_entries n rs i)

  other_entries : (owner n : ℕ) (rs : List R) → n ≢ owner → owned owner (map (entry n) rs) ≡ []
  other_entries owner n [] apart = refl
  other_entries owner n (r ∷ rs) apart =
      ap (λ b. map item_of (cond b (entry n r ∷ filter (λ (e : E). eqb (owner_of e) owner) (map (entry n) rs)) (filter (λ (e : E). eqb (owner_of e) owner) (map (entry n) rs))))
      (ne_eqb (owner_of (entry n r)) owner (λ same. apart (sym (owner_is n r) ∙ same)))
      ∙ other_entries owner n rs apart

  before_files : (files : List F) (from owner : ℕ) → owner < from → owned owner (joined_from from files) ≡ []
  before_files [] from owner h = refl
  before_files (f ∷ fs) from owner h =
      let apart : from ≢ owner = λ e. omega (arith, e, h) in
      owned-append owner (map (entry from) (records f)) (joined_from (from + 1) fs)
      ∙ (λ i. other_entries owner from (records f) apart i ++ before_files fs (from + 1) owner (omega (arith, h)) i)

  file_records : (files : List F) (from k : ℕ) (d : F) → k < length files → owned (from + k) (joined_from from files) ≡ records (get_or files k d)
  file_records [] from k d h = absurd (omega (arith, h))
  file_records (f ∷ fs) from zero d h =
      let e : from ≡ from + 0 = omega arith in
      subst (λ n. owned n (joined_from from (f ∷ fs)) ≡ records f) e
      (owned-append from (map (entry from) (records f)) (joined_from (from + 1) fs)
      ∙ ((λ i. own_entries from (records f) i ++ before_files fs (from + 1) from (omega arith) i) ∙ append-nil (records f)))
  file_records (f ∷ fs) from (suc k) d h =
      let n : ℕ = from + suc k in
      let apart : from ≢ n = λ e. omega (arith, e) in
      let e : (from + 1) + k ≡ n = omega arith in
      owned-append n (map (entry from) (records f)) (joined_from (from + 1) fs)
      ∙ (ap (λ l. l ++ owned n (joined_from (from + 1) fs)) (other_entries n from (records f) apart)
      ∙ (ap (λ m. owned m (joined_from (from + 1) fs)) (sym e) ∙ file_records fs (from + 1) k d (omega (arith, h))))

  past_records : (files : List F) (from owner : ℕ) → from + length files ≤ owner → owned owner (joined_from from files) ≡ []
  past_records [] from owner h = refl
  past_records (f ∷ fs) from owner h =
      let apart : from ≢ owner = λ e. omega (arith, e, h) in
      owned-append owner (map (entry from) (records f)) (joined_from (from + 1) fs)
      ∙ (λ i. other_entries owner from (records f) apart i ++ past_records fs (from + 1) owner (omega (arith, h)) i)

  -- an owner's items are the records of the file of its number, if there is one
  pub of_file : (files : List F) (k : ℕ) (d : F) → k < length files → owned k (joined_from 0 files) ≡ records (get_or files k d)
  of_file files k d h = let e : 0 + k ≡ k = omega arith in ap (λ n. owned n (joined_from 0 files)) (sym e) ∙ file_records files 0 k d h

  pub of_no_file : (files : List F) (k : ℕ) → length files ≤ k → owned k (joined_from 0 files) ≡ []
  of_no_file files k h = past_records files 0 k (omega (arith, h))
