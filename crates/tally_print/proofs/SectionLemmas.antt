-- The sections of answers.
use Rattle.std.proofs.Common.{◌≡◌, ℕ, List, [], ◌∷◌, ◌++◌, map, flat_map, refl, sym, ap, ◌∙◌}
use Rattle.std.proofs.lemmas.List.Folds.{flat_map-map}
use Rattle.tally_print.specs.Sections.{sections}

flat_of_map : {X : Type 0} (f : X → List ℕ) (xs : List X) → flat_map (λ x. 10 ∷ f x) xs ≡ flat_map (λ t. 10 ∷ t) (map f xs)
flat_of_map f [] = refl
flat_of_map f (x ∷ xs) = ap (λ l. (10 ∷ f x) ++ l) (flat_of_map f xs)

-- the first text and then the others
pub sections_first : {X : Type 0} (f : X → List ℕ) (all : List X) (x : X) (others : List X) → all ≡ x ∷ others → f x ++ flat_map (λ y. 10 ∷ f y) others ≡ sections (map f all)
sections_first f all x others e = ap (λ l. f x ++ l) (flat_of_map f others) ∙ ap (λ l. sections (map f l)) (sym e)

-- and so of texts of what stands for the elements
pub sections_first_by : {X Y : Type 0} (f : Y → List ℕ) (v : X → Y) (all : List X) (x : X) (others : List X) → all ≡ x ∷ others
    → f (v x) ++ flat_map (λ y. 10 ∷ f (v y)) others ≡ sections (map f (map v all))
sections_first_by f v all x others e =
    ap (λ l. f (v x) ++ l) (sym (flat_map-map (λ y. 10 ∷ f y) v others) ∙ flat_of_map f (map v others)) ∙ ap (λ l. sections (map f (map v l))) (sym e)
