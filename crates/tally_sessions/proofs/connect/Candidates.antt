-- The days of sessions, and the users on them, which rows are made of.
use Rattle.std.proofs.Common.{◌≡◌, ◌∙◌, List, [], ◌∷◌, ◌++◌, map, refl, sym, ap}
use Rattle.std.proofs.lemmas.List.{map-append}
use Rattle.std.specs.List.{flat_map}

module _ {S D K Row : Type 0} (row : K → Row) (key : S → D → K) (days : S → List D) where
  abbrev pub keys_among : List S → List K
  keys_among ss = flat_map (λ s. map (key s) (days s)) ss

  map_twice : (s : S) (ds : List D) → map (λ d. row (key s d)) ds ≡ map row (map (key s) ds)
  map_twice s [] = refl
  map_twice s (d ∷ ds) = ap (λ rs. row (key s d) ∷ rs) (map_twice s ds)

  -- a row for each day of each session is a row for each of their keys
  pub rows_of_keys : (ss : List S) → flat_map (λ s. map (λ d. row (key s d)) (days s)) ss ≡ map row (keys_among ss)
  rows_of_keys [] = refl
  rows_of_keys (s ∷ ss) = (λ i. map_twice s (days s) i ++ rows_of_keys ss i) ∙ sym (map-append row (map (key s) (days s)) (keys_among ss))
