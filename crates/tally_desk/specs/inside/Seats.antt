-- A caller's seat, as its view and the slots that are out with it.
use Rattle.std.specs.Prelude.{◌≡◌, ℕ, Bool, List, [], ◌∷◌, ◌++◌, MatchBool}
use mathlib.Core.List.{IsPrefix}
use Rattle.tally_book.specs.declared.history.Call.{Call}
use Rattle.tally_book.specs.Contents.{Contents}
use Rattle.tally_book.specs.Books.{IsLegal, caller_of}
use Rattle.tally_desk.specs.declared.lock.view.Known.{Known}
use Rattle.tally_desk.specs.declared.lock.view.Stage.TheVariants.{Idle, Waiting, Serving}
use Rattle.tally_desk.specs.inside.Views.{view}
use Rattle.tally_desk.specs.Passes.{Sat}

-- the seat stands for these callers, none of which has a ticket
abbrev pub standing : List Known → Sat
standing ks = (view ks Idle, [])

-- the seat of one caller without a ticket
abbrev pub idle : Known → Sat
idle k = (view (k ∷ []) Idle, [])

-- the seat of a caller that waits with this ticket
abbrev pub waiting : Known → ℕ → Sat
waiting k ticket = (view (k ∷ []) (Waiting ticket), [])

-- the caller has the turn: it got the book as `before`, and has it as `after`
abbrev pub turn : Known → ℕ → Contents → Contents → Sat
turn k ticket before after = (view (k ∷ []) (Serving ticket before), (0, after) ∷ [])

-- one call of the caller was made
pub record IsNext (number : ℕ) (before after : Contents) : Type 0 where
  pub call : Call
  pub by : caller_of call ≡ number
  pub made : after.calls ≡ before.calls ++ call ∷ []
  pub logins : IsPrefix before.logins after.logins
  pub procs : IsPrefix before.procs after.procs
  pub callers : after.callers ≡ before.callers
  pub clock : after.clock ≡ before.clock
  pub room : after.room ≡ before.room
  pub legal : IsLegal after

-- a call was answered and is the next one, or it was refused and the book is as it was
abbrev pub IsMade : Bool → ℕ → Contents → Contents → Type 0
IsMade answered number before after = MatchBool answered (IsNext number before after) (after ≡ before)
