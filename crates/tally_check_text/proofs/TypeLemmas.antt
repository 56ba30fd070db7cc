-- The line of types, type by type.
use Rattle.std.proofs.Common.{◌≡◌, ℕ, zero, suc, ◌+◌, ◌<◌, ◌≤◌, ◌++◌, Bool, true, false, List, [], ◌∷◌, length, drop, get_or, refl, eqb, arith, inl, inr, ◌==◌, add-one}
use Rattle.std.specs.Prelude.{if◌then◌else◌}
use Rattle.std.proofs.lemmas.Bool.{cases_Bool}
use Rattle.std.proofs.lemmas.List.{at_drop_all}
use Rattle.tally_check_text.specs.SectionText.{type_text, types_after}

-- what the type at a place adds, and then those after it
pub types_from : (begun : Bool) (counts : List ℕ) (names : List (List ℕ)) (i : ℕ) → i < length counts → i < length names
    → types_after begun (drop i counts) (drop i names)
    ≡ (if get_or counts i 0 == 0 then [] else type_text begun (get_or counts i 0) (get_or names i []))
    ++ types_after (if get_or counts i 0 == 0 then begun else true) (drop (i + 1) counts) (drop (i + 1) names)
unfolding types_after
types_from begun [] names i low high = absurd (omega arith)
types_from begun (c ∷ cs) [] i low high = absurd (omega arith)
types_from begun (c ∷ cs) (n ∷ ns) zero low high = elim (cases_Bool (eqb c 0)) [
  | inl none ↦ rw none refl
  | inr some ↦ rw some refl
]
types_from begun (c ∷ cs) (n ∷ ns) (suc i) low high = simp add-one (simp add-one at (types_from begun cs ns i (omega arith) (omega arith)))

-- the end of the line, where any type stands there
pub types_end : (begun : Bool) (counts : List ℕ) (names : List (List ℕ)) (i : ℕ) → length counts ≤ i → types_after begun (drop i counts) names ≡ (if begun then 10 ∷ [] else [])
unfolding types_after
types_end true counts names i over = at_drop_all (λ (left : List ℕ). types_after true left names) counts i over
types_end false counts names i over = at_drop_all (λ (left : List ℕ). types_after false left names) counts i over
