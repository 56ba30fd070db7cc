-- The names of users that a file gives.
use Rattle.std.specs.Prelude.{◌≡◌, ◌≤◌, ◌+◌, ℕ, List, length, take}
use Rattle.tally_usage.specs.Names.{name_in, names_of}
use Rattle.tally.specs.declared.users.TheConstants.{USERS_LIMIT}

-- as much of a file as shows whether it is too large
abbrev pub users_front : List ℕ → List ℕ
users_front bytes = take (USERS_LIMIT + 1) bytes

-- a file of users gives these names
pub record HasNamesOf (bytes : List ℕ) (names : List (ℕ × List ℕ)) : Type 0 where
  pub small : length bytes ≤ USERS_LIMIT
  pub each : (uid : ℕ) → names_of names uid ≡ name_in bytes uid
