-- How a turn ends, by what the book answered.
use Rattle.std.proofs.Common.{◌≡◌, ◌∙◌, ℕ, Bool, Result, Ok, Err, MatchResult, is_ok, refl, subst, sym}
use Rattle.tally_book.specs.Books.{IsLegal}
use Rattle.tally_book.specs.Contents.{Contents}
use Rattle.tally_desk.specs.declared.lock.view.Known.{Known}
use Rattle.tally_desk.specs.inside.Seats.{IsMade, IsNext, idle, turn}
use Rattle.tally_desk.specs.inside.Views.{knowing}
use Rattle.tally_desk.specs.Passes.{Sat}

-- the call of the caller `number`, after which the book is `after number`; the seat was `into`, and is `out`
module _ {T E : Type 0} (k : Known) (ticket number : ℕ) (before : Contents) (after : ℕ → Contents) (P : Contents → T → Type 0) (Q : E → Type 0)
    (own : number ≡ k.number) (next : IsLegal (after number) → IsNext k.number before (after number)) (into out : Sat) (entered : ◌≡◌ {A = Sat} into (turn k ticket before before)) where
  abbrev pub Told : Result T E → Type 0
  Told r = MatchResult r (λ t. ◌≡◌ {A = Sat} out (turn k ticket before (after number)) × IsLegal (after number) × P (after number) t) (λ e. ◌≡◌ {A = Sat} out into × Q e)

  -- the book as the turn leaves it
  pub made : (r : Result T E) (answered : Bool) → answered ≡ is_ok r → Told r → (now : Contents) × IsMade answered k.number before now × ◌≡◌ {A = Sat} out (turn k ticket before now)
  made (Ok t) answered is told = (after number, subst (λ b. IsMade b k.number before (after number)) (sym is) (next told.1), told.0)
  made (Err e) answered is told = (before, subst (λ b. IsMade b k.number before before) (sym is) refl, told.0 ∙ entered)

  -- the seat after its turn
  pub ended : (left : Sat) (r : Result T E) (answered : Bool) → answered ≡ is_ok r
      → ((known : Known) (drawn : ℕ) (first now : Contents) → IsMade answered known.number first now → ◌≡◌ {A = Sat} out (turn known drawn first now) → ◌≡◌ {A = Sat} left (idle (knowing now known)))
      → Told r
      → MatchResult r (λ t. ◌≡◌ {A = Sat} left (idle (knowing (after k.number) k)) × IsLegal (after k.number) × P (after k.number) t) (λ e. ◌≡◌ {A = Sat} left (idle (knowing before k)) × Q e)
  unfolding made
  ended left (Ok t) answered is leaves told =
      let kind = made (Ok t) answered is told in
      let shown : ℕ → Type 0 = λ n. ◌≡◌ {A = Sat} left (idle (knowing (after n) k)) × IsLegal (after n) × P (after n) t in
      subst shown own (leaves k ticket before (after number) kind.1 told.0, told.1, told.2)
  ended left (Err e) answered is leaves told = let kind = made (Err e) answered is told in (leaves k ticket before before kind.1 kind.2, told.1)
