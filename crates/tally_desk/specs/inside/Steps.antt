-- What each step shows its caller. A seat is seen as its view, and the slots that are out with it.
use Rattle.std.specs.Prelude.{◌≡◌, ℕ, ◌%◌, ◌^◌, ◌≤◌, ◌==◌, [], ◌∷◌, map, MatchBool}
use Rattle.atomic_table.specs.Table.{Step}
use Rattle.tally_book.specs.Contents.{Contents}
use Rattle.tally_book.specs.Books.{IsLegal}
use Rattle.tally_desk.specs.declared.lock.view.Known.{Known}
use Rattle.tally_desk.specs.declared.lock.view.Stage.{Stage}
use Rattle.tally_desk.specs.declared.lock.view.Stage.TheVariants.{Idle, Waiting, Serving}
use Rattle.tally_desk.specs.inside.Views.{view, knowing, told_of, AllFit}
use Rattle.tally_desk.specs.Passes.{Sat}

-- a ticket was drawn
abbrev pub Draws : Step Contents → Sat → ℕ → Sat → Type 0
Draws st m found m' = (ticket : ℕ) × (found ≡ ticket % 2 ^ 64) × (m' ≡ (view m.0.known (Waiting ticket), m.1))

-- it is the caller's turn, and the caller has the book, or nothing has changed
abbrev pub Looks : Step Contents → Sat → ℕ → Sat → Type 0
Looks st m found m' = (ticket : ℕ) → m.0.stage ≡ Waiting ticket
    → MatchBool (found == ticket % 2 ^ 64)
    ((book : Contents) × (m' ≡ (view m.0.known (Serving ticket book), (0, book) ∷ m.1)) × IsLegal book × AllFit book m.0.known)
    (m' ≡ m)

-- the stage of a seat that has the book with these contents
abbrev pub serving_now : Contents → Stage → Stage
serving_now book Idle = Idle
serving_now book (Waiting ticket) = Waiting ticket
serving_now book (Serving ticket held) = Serving ticket book

-- a seat whose call was counted: the caller knows the book that it has out
abbrev pub counted : Sat → Sat
counted (v, []) = (v, [])
counted (v, x ∷ xs) = (view (map (knowing x.1) v.known) (serving_now x.1 v.stage), x ∷ xs)

-- the call was counted
abbrev pub Counts : Step Contents → Sat → ℕ → Sat → Type 0
Counts st m found m' = m' ≡ counted m

-- a seat whose turn is over: the book is at home, and the caller knows it as it is
abbrev pub left : Sat → Sat
left (v, []) = (v, [])
left (v, x ∷ xs) = (view (map (knowing x.1) v.known) Idle, xs)

-- the turn is over
abbrev pub Leaves : Step Contents → Sat → ℕ → Sat → Type 0
Leaves st m found m' = m' ≡ left m

-- the caller has learned the number of calls
abbrev pub Tells : Step Contents → Sat → ℕ → Sat → Type 0
Tells st m found m' = (m' ≡ (view (map (told_of found) m.0.known) m.0.stage, m.1)) × ((k : Known) → m.0.known ≡ k ∷ [] → k.told ≤ found)
