-- What is true of each caller's knowledge.
use Rattle.std.specs.Prelude.{◌≡◌, ◌<◌, ◌≤◌, length}
use Rattle.tally_book.specs.Books.{IsLegal, calls_of}
use Rattle.tally_desk.specs.declared.lock.view.Known.{Known}

-- what was seen is legal, has the caller's own calls and no others of it, and is no longer than what was learned
pub record IsSound (k : Known) : Type 0 where
  pub legal : IsLegal k.seen
  pub near : k.number < k.seen.callers
  pub own : calls_of k.number k.seen.calls ≡ k.mine
  pub told : length k.seen.calls ≤ k.told
