-- The rule of the table: a ticket lock over a book and its one history.
use Rattle.std.specs.Prelude.{◌≡◌, ℕ, ◌+◌, ◌%◌, ◌^◌, ◌≤◌, ◌⊎◌, List, [], ◌∷◌, length, sum_by}
use mathlib.Core.Option.{Option, none, some}
use lib.ListN.{get_elem?}
use Rattle.atomic_table.specs.Table.{State}
use Rattle.tally_book.specs.Contents.{Contents}
use Rattle.tally_book.specs.Books.{IsLegal}
use Rattle.tally_desk.specs.declared.lock.view.Stage.{Stage}
use Rattle.tally_desk.specs.declared.lock.view.Stage.TheVariants.{Idle, Waiting, Serving}
use Rattle.tally_desk.specs.declared.lock.view.View.{View}
use Rattle.tally_desk.specs.inside.Totals.{below}
use Rattle.tally_desk.specs.inside.Views.{AllFit, ticket_weight, number_weight, calls_made}

-- whoever has the turn has the ticket that is served, knows the book as it is, and has it out
abbrev pub HasTurn : Contents → ℕ → List (Option Contents) → Stage → Type 0
HasTurn book served homes Idle = Unit {0}
HasTurn book served homes (Waiting ticket) = Unit {0}
HasTurn book served homes (Serving ticket held) = (ticket ≡ served) × (held ≡ book) × (homes ≡ none ∷ [])

-- what a seat knows holds of the book as it is
pub record Knows (book : Contents) (served : ℕ) (homes : List (Option Contents)) (v : View) : Type 0 where
  pub fit : AllFit book v.known
  pub turn : HasTurn book served homes v.stage
  -- a ticket is held for a caller
  pub one : ticket_weight (λ _. 1) v.stage ≤ number_weight (λ _. 1) v

-- some seat has the turn
abbrev pub IsServing : List View → Type 0
IsServing views = (j : ℕ) × (v : View) × (ticket : ℕ) × (held : Contents) × (get_elem? views j ≡ some v) × (v.stage ≡ Serving ticket held)

-- the book is at home, or out with the seat that has the turn
abbrev pub Placed : Contents → List (Option Contents) → List View → Type 0
Placed book homes views = (homes ≡ some book ∷ []) ⊎ ((homes ≡ none ∷ []) × IsServing views)

-- `drawn` tickets were drawn and `served` turns are over. A word counts them up to 2^64 - 1 and goes on with 0.
pub record Orderly (callers : ℕ) (s : State Contents View) : Type 0 where
  pub book : Contents
  pub drawn : ℕ
  pub served : ℕ
  pub words : s.words ≡ length book.calls ∷ drawn % 2 ^ 64 ∷ served % 2 ^ 64 ∷ []
  pub legal : IsLegal book
  pub all : book.callers ≡ callers
  -- each number below `callers` stands with one seat, once, and no other number does
  pub numbers : (f : ℕ → ℕ) → sum_by (number_weight f) s.views ≡ below f callers
  -- each ticket from `served` up to `drawn` is held by one seat, and no other ticket is
  pub tickets : (f : ℕ → ℕ) → sum_by (λ v. ticket_weight f v.stage) s.views + below f served ≡ below f drawn
  -- the calls are those that the callers made
  pub counted : sum_by calls_made s.views ≡ length book.calls
  pub each : (j : ℕ) (v : View) → get_elem? s.views j ≡ some v → Knows book served s.homes v
  pub place : Placed book s.homes s.views
