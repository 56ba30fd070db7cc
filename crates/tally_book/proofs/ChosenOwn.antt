-- What is chosen of entries, owner by owner.
use Rattle.std.proofs.Common.{◌≡◌, ℕ, Bool, true, false, cond, List, [], ◌∷◌, map, refl, sym, ap, ◌∙◌, eqb}
use Rattle.std.specs.List.{filter}
use Rattle.tally_book.proofs.Parts.{owned}

module _ {E R : Type 0} (owner_of : E → ℕ) (item_of : E → R) (p : R → Bool) where
  -- the entries whose items pass
  abbrev pub passing : List E → List E
  passing es = filter (λ e. p (item_of e)) es

  -- an owner's items among these are those of the owner's items that pass
  pub owned_passing : (owner : ℕ) (es : List E) → owned owner_of item_of owner (passing es) ≡ filter p (owned owner_of item_of owner es)
  owned_passing owner [] = refl
  owned_passing owner (e ∷ es) = by (p (item_of e)) refl (eqb (owner_of e) owner) refl (owned_passing owner es)
    where
      kept : List E
      kept = filter (λ (x : E). eqb (owner_of x) owner) es

      both : List E
      both = filter (λ (x : E). eqb (owner_of x) owner) (passing es)

      by : (b : Bool) → p (item_of e) ≡ b → (own : Bool) → eqb (owner_of e) owner ≡ own → map item_of both ≡ filter p (map item_of kept)
          → map item_of (filter (λ (x : E). eqb (owner_of x) owner) (cond b (e ∷ passing es) (passing es))) ≡ filter p (map item_of (cond own (e ∷ kept) kept))
      by true passes true owns rest =
          (λ i. map item_of (cond (owns i) (e ∷ both) both)) ∙ ap (λ rs. item_of e ∷ rs) rest
          ∙ (λ i. cond (sym passes i) (item_of e ∷ filter p (map item_of kept)) (filter p (map item_of kept)))
      by true passes false owns rest = (λ i. map item_of (cond (owns i) (e ∷ both) both)) ∙ rest
      by false passes true owns rest = rest ∙ (λ i. cond (sym passes i) (item_of e ∷ filter p (map item_of kept)) (filter p (map item_of kept)))
      by false passes false owns rest = rest
