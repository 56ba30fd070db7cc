-- The chosen ones among a host's latest stays.
use Rattle.std.proofs.Common.{◌≡◌, ◌∙◌, ◌≤◌, ◌++◌, ◌∷◌, Bool, true, false, cond, List, [], arith, ap, filter, length, refl, reverse, sym}
use Rattle.std.proofs.lemmas.List.{append-nil, reverse-append}
use Rattle.std.proofs.lemmas.List.Elements.{filter-append}
use Rattle.std.proofs.lemmas.List.Sums.{count_by-le-length, length-filter}
use Rattle.tally_sessions.specs.declared.entry.Stay.{Stay}

module _ (p : Stay → Bool) where
  turned : (x : Stay) (xs : List Stay) → reverse (x ∷ xs) ≡ reverse xs ++ x ∷ []
  turned x xs = reverse-append (x ∷ []) xs

  last : (b : Bool) (x : Stay) (xs : List Stay) → reverse xs ++ cond b (x ∷ []) [] ≡ reverse (cond b (x ∷ xs) xs)
  last true x xs = sym (turned x xs)
  last false x xs = append-nil (reverse xs)

  -- the chosen ones from the latest back are those of all, the other way round
  pub chosen_latest : (xs : List Stay) → filter p (reverse xs) ≡ reverse (filter p xs)
  chosen_latest [] = refl
  chosen_latest (x ∷ xs) =
      ap (filter p) (turned x xs) ∙ filter-append p (reverse xs) (x ∷ []) ∙ ap (λ (ys : List Stay). ys ++ filter p (x ∷ [])) (chosen_latest xs) ∙ last (p x) x (filter p xs)

  -- there are no more of them
  pub chosen_fewer : (xs : List Stay) → length (filter p xs) ≤ length xs
  chosen_fewer xs = omega (arith, length-filter p xs, count_by-le-length p xs)
