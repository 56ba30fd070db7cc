-- A table of the seconds of users on days: a cell for each day from the first on and each user, those of a day side by side.
use Rattle.std.specs.Prelude.{◌≡◌, ℕ, ◌+◌, ◌*◌, ◌<◌, List, [], get_or, length, ℤ, pos, ◌+ℤ◌}
use Rattle.tally_sessions.specs.declared.connect.keys.DayUser.{DayUser}
use Rattle.tally_sessions.specs.declared.sums.Session.{Session}
use Rattle.tally_sessions.specs.Days.{IsDay}
use Rattle.tally_sessions.specs.Sums.{seconds_of_day_user}

-- the cell of a day and a user by their places, in a table for so many users
abbrev pub cell_at : List ℕ → ℕ → ℕ → ℕ → ℕ
cell_at cells width place rank = get_or cells (place * width + rank) 0

-- the user at a place, on the day at a place
abbrev pub key_at : ℤ → List (List ℕ) → ℕ → ℕ → DayUser
key_at first users place rank = record { day = first +ℤ pos place; user = get_or users rank [] }

-- a user of the table, on its first day or a later one
pub record IsCovered (first : ℤ) (users : List (List ℕ)) (k : DayUser) : Type 0 where
  pub place : ℕ
  pub rank : ℕ
  pub known : rank < length users
  pub is : key_at first users place rank ≡ k

-- the cells have the seconds of all sessions
pub record HasSeconds (clock : ℤ → ℤ) (first : ℤ) (users : List (List ℕ)) (cells : List ℕ) (sessions : List Session) : Type 0 where
  pub value : (place rank : ℕ) → rank < length users → cell_at cells (length users) place rank ≡ seconds_of_day_user clock (key_at first users place rank).day (key_at first users place rank).user sessions
  pub covered : (k : DayUser) → 0 < seconds_of_day_user clock k.day k.user sessions → IsCovered first users k
  pub days : (k : DayUser) → 0 < seconds_of_day_user clock k.day k.user sessions → IsDay k.day
