-- The words that name.
use Rattle.std.proofs.Common.{◌≡◌, ◌<◌, ◌++◌, Bool, true, false, ℕ, List, [], ap₂, arith, drop, IsTrue, MatchBool, length, refl, replicate, subst}
use Rattle.std.specs.Borrow.{Bor}
use Rattle.std.specs.List.{All, AllWithin, HoldsAt}
use Rattle.std.proofs.lemmas.List.{drop-replicate, length-map, get_or-map}
use Rattle.std.proofs.lemmas.List.Elements.{All-map}
use Rattle.clap.specs.Walk.{texts}
use Rattle.clap.specs.Words.{Text}
use Rattle.tally_records.specs.Text.{padded}

-- a search through words tells of all their texts
pub all_texts : (P : Text → Type 0) (words : List (Bor Text)) (r : Bool)
    → MatchBool r (AllWithin (λ (w : Bor Text). P w.now) words 0 (length words)) ((k : ℕ) × (k < length words) × HoldsAt (λ (w : Bor Text). ¬ P w.now) words k)
    → (IsTrue r → All P (texts words)) × (All P (texts words) → IsTrue r)
all_texts P words true found = (λ yes. All-map P (λ (w : Bor Text). w.now) words (λ k d l. found k d (omega arith) l), λ all. refl)
all_texts P words false (k, l, other) =
    let none : Bor Text = record { ref_ptr = (0, 0); now = [] } in
    (λ yes. cc, λ all. absurd (other none (subst P (get_or-map (λ (w : Bor Text). w.now) words k none [] l) (all k [] (omega (arith, length-map {A = Bor Text} {B = Text}))))))

-- a name is its text, and zeros after it
pub name_is : (text copied : List ℕ) → copied ≡ text → copied ++ drop (length text) (replicate 32 0) ≡ padded 32 text
name_is text copied is = ap₂ (λ xs ys. xs ++ ys) is (drop-replicate (length text) 32 0)
