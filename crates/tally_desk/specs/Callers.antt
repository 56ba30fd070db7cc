-- What a caller knows of the book.
use Rattle.std.specs.Prelude.{◌≡◌, ℕ, ◌≤◌, [], length}
use mathlib.Core.List.{IsPrefix}
use Rattle.tally_clock.specs.Rows.{ClockRows}
use Rattle.tally_book.specs.Contents.{Contents}
use Rattle.tally_book.specs.Books.{empty_with_room, calls_of}
use Rattle.tally_desk.specs.declared.lock.view.Known.{Known}

-- a caller that has made no call
abbrev pub newcomer : ClockRows → ℕ → ℕ → ℕ → Known
newcomer clock room callers number = record { number = number; seen = empty_with_room clock room callers; mine = []; told = 0 }

-- the old contents are a beginning of the new ones
pub record Follows (old new : Contents) : Type 0 where
  pub callers : new.callers ≡ old.callers
  pub clock : new.clock ≡ old.clock
  pub room : new.room ≡ old.room
  pub logins : IsPrefix old.logins new.logins
  pub procs : IsPrefix old.procs new.procs
  pub calls : IsPrefix old.calls new.calls

-- what the caller has seen is a beginning of the book, its own calls are the book's calls of it, and it has learned of no more calls than there are
pub record Fits (book : Contents) (k : Known) : Type 0 where
  pub seen : Follows k.seen book
  pub own : calls_of k.number book.calls ≡ k.mine
  pub told : k.told ≤ length book.calls
