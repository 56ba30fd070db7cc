-- A book that was asked once, or not.
use Rattle.std.specs.Prelude.{◌≡◌, ◌+◌, ◌≤◌, length}
use Rattle.tally_book.specs.Contents.{Contents}

-- it has the same entries, and at most one call more
pub record IsAskedOnce (old new : Contents) : Type 0 where
  pub callers : new.callers ≡ old.callers
  pub clock : new.clock ≡ old.clock
  pub logins : new.logins ≡ old.logins
  pub procs : new.procs ≡ old.procs
  pub calls : length new.calls ≤ length old.calls + 1
