-- What a look shows.
use Rattle.std.proofs.Common.{◌≡◌, ◌≢◌, ◌∙◌, ℕ, Bool, true, false, ◌∷◌, ap, refl, subst, sym}
use Rattle.std.specs.Prelude.{◌==◌, MatchBool}
use Rattle.std.proofs.lemmas.Bool.{eq-eqb, eqb-true}
use Rattle.tally_book.specs.Books.{IsLegal}
use Rattle.tally_book.specs.Contents.{Contents}
use Rattle.tally_desk.specs.Callers.{Fits}
use Rattle.tally_desk.specs.declared.lock.view.Known.{Known}
use Rattle.tally_desk.specs.declared.lock.view.Stage.TheVariants.{Serving}
use Rattle.tally_desk.specs.inside.Seats.{turn, waiting}
use Rattle.tally_desk.specs.inside.Views.{AllFit, view}
use Rattle.tally_desk.specs.Passes.{Sat}

-- the turn of a caller that waits, where its ticket is served
pub looked : (served : Bool) (m m' : Sat) (k : Known) (ticket : ℕ) → m ≡ waiting k ticket
    → MatchBool served ((book : Contents) × (m' ≡ (view m.0.known (Serving ticket book), (0, book) ∷ m.1)) × IsLegal book × AllFit book m.0.known) (m' ≡ m)
    → MatchBool served ((book : Contents) × (m' ≡ turn k ticket book book) × IsLegal book × Fits book k) (m' ≡ m)
looked true m m' k ticket e h =
    let fit : AllFit h.0 (waiting k ticket).0.known = subst (λ (x : Sat). AllFit h.0 x.0.known) e h.3 in
    (h.0, h.1 ∙ (λ i. (view (e i).0.known (Serving ticket h.0), (0, h.0) ∷ (e i).1)), h.2, fit.0)
looked false m m' k ticket e h = h

-- whether two numbers are equal
module _ (P Q : Type 0) (a b : ℕ) where
  pub equal : a ≡ b → MatchBool (a == b) P Q → P
  equal same h = subst (λ t. MatchBool t P Q) (eq-eqb a b same) h

  pub unequal : (a ≢ b) → MatchBool (a == b) P Q → Q
  unequal apart = go (a == b) refl
    where
      go : (t : Bool) → (a == b) ≡ t → MatchBool t P Q → Q
      go true e h = absurd (apart (eqb-true a b e))
      go false e h = h

-- whether a ticket is served, by the turns before it
module _ (P Q R : Type 0) (before : ℕ) (served : Bool) (is : (before == 0) ≡ served) where
  pub looked_before : (Q → R) → MatchBool served P Q → MatchBool (before == 0) P R
  looked_before still h = subst (λ t. MatchBool t P R) (sym is) (go served h)
    where
      go : (t : Bool) → MatchBool t P Q → MatchBool t P R
      go true h = h
      go false h = still h

-- the next caller waits
pub next_waits : (P Q : Type 0) (before : ℕ) (served : Bool) → before ≡ 1 → (before == 0) ≡ served → MatchBool served P Q → Q
next_waits P Q before served one is h = subst (λ t. MatchBool t P Q) (sym is ∙ ap (λ n. n == 0) one) h
