-- Where a name stands in a table.
use Rattle.std.proofs.Common.{◌≡◌, ℕ, Bool, true, false, refl, cond, List, [], ◌∷◌, ◌++◌, length, length-append, slice_get, get_or, position, Option, None, Some, IfSome, sym, ap, ◌∙◌, arith}
use Rattle.std.proofs.Math.Seq.{get_or-append_seam}
use Rattle.std.proofs.lemmas.List.{get_or_append_left, map-append}
use Rattle.std.proofs.lemmas.Map.Entries.{length-keys_of}
use Rattle.std.specs.Cmp.Lexicographic.{nat_list_eq_equiv, same_text}
use Rattle.std.specs.Map.{keys_of, lookup}
use Rattle.std.specs.Prelude.{Result, Ok, Err, IsOk, OnOk}
use Rattle.std.specs.Option.{option_map}
use Rattle.std.specs.Prelude.{bytes_eq}
use Rattle.std.proofs.lemmas.List.Quantifiers.{position-Some}
use Rattle.std.proofs.lemmas.Map.Views.{lookup-from_Contains}
use Rattle.std.proofs.lemmas.Bool.{false≢true}
use Rattle.std.proofs.lemmas.Slice.Eq.{bytes_eq-Decides}
use Rattle.std.proofs.lemmas.Option.{get_or_from_slice_get, slice_get-get_or, slice_get-map, slice_get_within}
use Rattle.indexmap.specs.IndexMap.{IndexMap, IsUnique, keys, set_value_at}
use Rattle.indexmap.proofs.CallerLemmas.{updates-with_value_at}

-- the name of the entry at a place
pub own_name : (entries : List (List ℕ × ℕ)) (i : ℕ) (own : List ℕ) (n : ℕ) → slice_get entries i ≡ Some (own, n) → slice_get (keys_of entries) i ≡ Some own
own_name entries i own n entry = slice_get-map (λ (p : List ℕ × ℕ). p.0) entries i ∙ ap (option_map (λ (p : List ℕ × ℕ). p.0)) entry

-- the name at a place, by the entry that stands there
pub own_key : (entries : List (List ℕ × ℕ)) (i : ℕ) (own name : List ℕ) (n : ℕ) → slice_get entries i ≡ Some (own, n) → bytes_eq own name ≡ true → slice_get (keys_of entries) i ≡ Some name
own_key entries i own name n entry same = own_name entries i own n entry ∙ ap Some (same_text own name (sym same))

-- the name at the place where a search found it
pub found_key : (names : List (List ℕ)) (name : List ℕ) (o : Option ℕ) → o ≡ position (bytes_eq name) names → IfSome o (λ i. slice_get names i ≡ Some name)
found_key names name None e = tt
found_key names name (Some i) e =
    let found = position-Some (bytes_eq name) names i name (sym e) in
    slice_get-get_or names i name found.0 ∙ ap Some (sym (same_text name (get_or names i name) (sym found.1)))

-- names stay where they stand when one more comes last
module _ (entries more : List (List ℕ × ℕ)) (name : List ℕ) (n : ℕ) (is : more ≡ entries ++ (name, n) ∷ []) where
  names_are : keys_of more ≡ keys_of entries ++ name ∷ []
  names_are = ap keys_of is ∙ map-append (λ (p : List ℕ × ℕ). p.0) entries ((name, n) ∷ [])

  pub stands_before : (i : ℕ) (other : List ℕ) → slice_get (keys_of entries) i ≡ Some other → slice_get (keys_of more) i ≡ Some other
  stands_before i other there =
      let within = slice_get_within (keys_of entries) i other there in
      ap (λ names. slice_get names i) names_are
      ∙ slice_get-get_or (keys_of entries ++ name ∷ []) i other (omega (arith, within, length-append (keys_of entries) (name ∷ [])))
      ∙ ap Some (get_or_append_left (keys_of entries) (name ∷ []) other i within ∙ get_or_from_slice_get (keys_of entries) i other other there)

  pub stands_last : (i : ℕ) → i ≡ length entries → slice_get (keys_of more) i ≡ Some name
  stands_last i last =
      let seam : i ≡ length (keys_of entries) = last ∙ sym (length-keys_of entries) in
      ap (λ names. slice_get names i) names_are
      ∙ slice_get-get_or (keys_of entries ++ name ∷ []) i name (omega (arith, seam, length-append (keys_of entries) (name ∷ [])))
      ∙ ap Some (ap (λ k. get_or (keys_of entries ++ name ∷ []) k name) seam ∙ get_or-append_seam (keys_of entries) name [] name)

-- the entry at a name's place
module _ {S : Type 0} (m : IndexMap (List ℕ) ℕ S) (i : ℕ) (name own : List ℕ) (n : ℕ) (unique : IsUnique bytes_eq m) (place : slice_get (keys m) i ≡ Some name) (entry : slice_get m.entries i ≡ Some (own, n)) where
  own_is : own ≡ name
  own_is = let e : Some own ≡ Some name = ap (option_map (λ (p : List ℕ × ℕ). p.0)) (sym entry) ∙ sym (slice_get-map (λ (p : List ℕ × ℕ). p.0) m.entries i) ∙ place in cc

  entry_is : slice_get m.entries i ≡ Some (name, n)
  entry_is = entry ∙ (λ j. Some (own_is j, n))

  pub lookup_at : lookup (bytes_eq name) m.entries ≡ Some n
  lookup_at = lookup-from_Contains nat_list_eq_equiv name n m.entries unique (i, slice_get_within m.entries i (name, n) entry_is, get_or_from_slice_get m.entries i (name, n) (name, n) entry_is)

  pub lookup_set : (w : ℕ) (other : List ℕ) → lookup (bytes_eq other) (set_value_at m.entries i w) ≡ cond (bytes_eq name other) (Some w) (lookup (bytes_eq other) m.entries)
  lookup_set w other = (updates-with_value_at m i w nat_list_eq_equiv unique name n entry_is).0 other

-- two names are compared alike in either order
pub same_both_ways : (a b : List ℕ) (t : Bool) → bytes_eq a b ≡ t → bytes_eq b a ≡ t
same_both_ways a b true h = (bytes_eq-Decides b a).1 (sym ((bytes_eq-Decides a b).0 h))
same_both_ways a b false h = by (bytes_eq b a) refl
  where
    by : (t : Bool) → bytes_eq b a ≡ t → bytes_eq b a ≡ false
    by false e = e
    by true e = absurd (false≢true (sym h ∙ (bytes_eq-Decides a b).1 (sym ((bytes_eq-Decides b a).0 e))))

-- what holds where a call succeeds holds
pub on_ok : {T E : Type 0} (r : Result T E) (P : Type 0) → IsOk r → OnOk r P → P
on_ok (Ok x) P is h = h
on_ok (Err e) P is h = absurd (false≢true is)
