-- What seats know.
use Rattle.std.specs.Prelude.{ℕ, List, [], ◌∷◌, ◌++◌, length, map, take, drop, sum_by}
use Rattle.std.specs.List.{range_with_len}
use Rattle.tally_clock.specs.Rows.{ClockRows}
use Rattle.tally_book.specs.Contents.{Contents}
use Rattle.tally_book.specs.Books.{calls_of}
use Rattle.tally_desk.specs.declared.lock.rule.Opening.{Opening}
use Rattle.tally_desk.specs.declared.lock.view.Known.{Known}
use Rattle.tally_desk.specs.declared.lock.view.Stage.{Stage}
use Rattle.tally_desk.specs.declared.lock.view.Stage.TheVariants.{Idle, Waiting, Serving}
use Rattle.tally_desk.specs.declared.lock.view.View.{View}
use Rattle.tally_desk.specs.Callers.{newcomer, Fits}

-- a view
abbrev pub view : List Known → Stage → View
view known stage = record { known = known; stage = stage }

-- the n newcomers from a number on
abbrev pub newcomers : ClockRows → ℕ → ℕ → ℕ → ℕ → List Known
newcomers clock room callers number n = map (newcomer clock room callers) (range_with_len number n)

-- the first seat stands for all callers
abbrev pub opening_view : Opening → View
opening_view o = view (newcomers o.clock o.room o.callers 0 o.callers) Idle

-- the first caller of a seat, which gets its own seat
abbrev pub dealt : View → View
dealt v = view (take 1 v.known) Idle

-- the callers that the seat keeps then
abbrev pub kept : View → View
kept v = view (drop 1 v.known) v.stage

-- the callers of two seats, those of the second first
abbrev pub joined : View → View → View
joined v w = view (w.known ++ v.known) v.stage

-- a seat that stands for nobody
abbrev pub spent : View
spent = view [] Idle

-- what a caller knows that has the book before it
abbrev pub knowing : Contents → Known → Known
knowing book k = record { number = k.number; seen = book; mine = calls_of k.number book.calls; told = length book.calls }

-- what a caller knows that learns the number of calls
abbrev pub told_of : ℕ → Known → Known
told_of calls k = record { number = k.number; seen = k.seen; mine = k.mine; told = calls }

-- it is so of each of these callers
abbrev pub AllFit : Contents → List Known → Type 0
AllFit book [] = Unit {0}
AllFit book (k ∷ ks) = Fits book k × AllFit book ks

-- the weight of the ticket
abbrev pub ticket_weight : (ℕ → ℕ) → Stage → ℕ
ticket_weight f Idle = 0
ticket_weight f (Waiting ticket) = f ticket
ticket_weight f (Serving ticket book) = f ticket

-- the weight of the callers' numbers
abbrev pub number_weight : (ℕ → ℕ) → View → ℕ
number_weight f v = sum_by (λ k. f k.number) v.known

-- how many calls the callers have made
abbrev pub calls_made : View → ℕ
calls_made v = sum_by (λ k. length k.mine) v.known
