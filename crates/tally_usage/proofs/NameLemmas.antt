-- Names as they are kept, by number, and as the lines of a file give them one after another.
use Rattle.std.proofs.Common.{◌≡◌, ℕ, Bool, true, false, cond, nat_eq, eqb, ltb, List, ◌++◌, map, Option, None, Some, is_some, Vec, refl, sym, ap, ◌∙◌, arith}
use Rattle.std.proofs.lemmas.Bool.{false≢true, eqb-true}
use Rattle.std.proofs.lemmas.Bool.Decides.{nat_tests}
use Rattle.std.proofs.lemmas.Cmp.{nat_eq_equiv}
use Rattle.std.proofs.lemmas.List.{map-append}
use Rattle.std.proofs.lemmas.List.Folds.{find-append}
use Rattle.std.proofs.lemmas.Map.Made.{lookup-map_values}
use Rattle.std.specs.BTreeMap.{is_at}
use Rattle.std.specs.List.{find}
use Rattle.std.specs.Map.{lookup}
use Rattle.std.specs.Option.{option_map, option_or}
use Rattle.std.specs.Ordering.{is_eq, nat_cmp}
use Rattle.std.specs.declared.cmp.Ordering.TheVariants.{Less, Equal, Greater}
use Rattle.tally_usage.specs.Names.{fields_of, has_uid, name_among, name_field, names_of}
use Rattle.tally_usage.specs.inside.Names.{names_kept}

-- ---- options

option_or-none : {X : Type 0} (o : Option X) → option_or o None ≡ o
option_or-none None = refl
option_or-none (Some x) = refl

option_map-or : {X Y : Type 0} (f : X → Y) (o p : Option X) → option_map f (option_or o p) ≡ option_or (option_map f o) (option_map f p)
option_map-or f None p = refl
option_map-or f (Some x) p = refl

option_or-some : {X Y : Type 0} (f : X → Y) (o : Option X) (p : Option Y) → is_some o ≡ true → option_or (option_map f o) p ≡ option_map f o
option_or-some f None p some = absurd (false≢true some)
option_or-some f (Some x) p some = refl

option_or-absent : {X Y : Type 0} (f : X → Y) (o : Option X) (p : Option Y) → is_some o ≡ false → option_or (option_map f o) p ≡ p
option_or-absent f None p none = refl
option_or-absent f (Some x) p none = absurd (false≢true (sym none))

-- ---- look-ups

tied : (less same : Bool) → (less ≡ true → same ≡ false) → is_eq (cond less Less (cond same Equal Greater)) ≡ same
tied true same apart = sym (apart refl)
tied false true apart = refl
tied false false apart = refl

tied_numbers : (a b : ℕ) → is_eq (nat_cmp a b) ≡ nat_eq a b
tied_numbers a b = tied (ltb a b) (eqb a b) (λ less. grind (arith, nat_tests))

module _ {A : Type 0} where
  -- the kept name of a number
  pub kept_name : (es : List (ℕ × Vec ℕ A)) (uid : ℕ) → names_of (names_kept es) uid ≡ option_map (λ (v : Vec ℕ A). v.items) (lookup (is_at (nat_cmp uid)) es)
  kept_name es uid =
      lookup-map_values (λ (v : Vec ℕ A). v.items) (nat_eq uid) es
      ∙ ap (λ (test : ℕ → Bool). option_map (λ (v : Vec ℕ A). v.items) (lookup test es)) (λ i k. sym (tied_numbers uid k) i)

  -- a number that has a name keeps it
  pub name_stays : (es : List (ℕ × Vec ℕ A)) (uid q : ℕ) (name : List ℕ) → is_some (lookup (is_at (nat_cmp uid)) es) ≡ true
      → names_of (names_kept es) q ≡ option_or (names_of (names_kept es) q) (cond (nat_eq q uid) (Some name) None)
  name_stays es uid q name some = by (nat_eq q uid) refl
    where
      by : (b : Bool) → nat_eq q uid ≡ b → names_of (names_kept es) q ≡ option_or (names_of (names_kept es) q) (cond b (Some name) None)
      by true same =
          let here : is_some (lookup (is_at (nat_cmp q)) es) ≡ true = ap (λ n. is_some (lookup (is_at (nat_cmp n)) es)) (eqb-true q uid same) ∙ some in
          kept_name es q ∙ sym (option_or-some (λ (v : Vec ℕ A). v.items) (lookup (is_at (nat_cmp q)) es) (Some name) here) ∙ ap (λ o. option_or o (Some name)) (sym (kept_name es q))
      by false other = sym (option_or-none _)

  -- a number that has none gets the name
  pub name_is_put : (es fs : List (ℕ × Vec ℕ A)) (uid q : ℕ) (v : Vec ℕ A) (name : List ℕ) → v.items ≡ name → is_some (lookup (is_at (nat_cmp uid)) es) ≡ false
      → lookup (is_at (nat_cmp q)) fs ≡ cond (is_at (nat_cmp uid) q) (Some v) (lookup (is_at (nat_cmp q)) es)
      → names_of (names_kept fs) q ≡ option_or (names_of (names_kept es) q) (cond (nat_eq q uid) (Some name) None)
  name_is_put es fs uid q v name is none put = by (nat_eq q uid) refl
    where
      found : (b : Bool) → nat_eq q uid ≡ b → names_of (names_kept fs) q ≡ option_map (λ (w : Vec ℕ A). w.items) (cond b (Some v) (lookup (is_at (nat_cmp q)) es))
      found b e =
          kept_name fs q
          ∙ ap (option_map (λ (w : Vec ℕ A). w.items)) (put ∙ ap (λ t. cond t (Some v) (lookup (is_at (nat_cmp q)) es)) (tied_numbers uid q ∙ nat_eq_equiv.symm uid q ∙ e))

      by : (b : Bool) → nat_eq q uid ≡ b → names_of (names_kept fs) q ≡ option_or (names_of (names_kept es) q) (cond b (Some name) None)
      by true same =
          let absent : is_some (lookup (is_at (nat_cmp q)) es) ≡ false = ap (λ n. is_some (lookup (is_at (nat_cmp n)) es)) (eqb-true q uid same) ∙ none in
          found true same ∙ ap Some is
          ∙ sym (ap (λ o. option_or o (Some name)) (kept_name es q) ∙ option_or-absent (λ (w : Vec ℕ A). w.items) (lookup (is_at (nat_cmp q)) es) (Some name) absent)
      by false other = found false other ∙ sym (kept_name es q) ∙ sym (option_or-none _)

-- ---- lines

-- the name is that of the first lines, or else of those that follow
pub name_among-append : (xs ys : List (List ℕ)) (uid : ℕ) → name_among (xs ++ ys) uid ≡ option_or (name_among xs uid) (name_among ys uid)
name_among-append xs ys uid =
    ap (λ l. option_map name_field (find (has_uid uid) l)) (map-append fields_of xs ys)
    ∙ ap (option_map name_field) (find-append (has_uid uid) (map fields_of xs) (map fields_of ys))
    ∙ option_map-or name_field (find (has_uid uid) (map fields_of xs)) (find (has_uid uid) (map fields_of ys))
