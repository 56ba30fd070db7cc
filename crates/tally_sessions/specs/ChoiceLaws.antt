-- Laws of chosen sessions: parts of the time and of the users add up, and a choice that names nothing leaves nothing out.
use Rattle.std.specs.Prelude.{◌≡◌, ◌+◌, ◌≤ℤ◌, ℕ, ℤ, List, Option, Some, IfSome, reverse, true, if◌then◌else◌}
use Rattle.tally_records.specs.Choice.{every_login, is_among, is_every_login}
use Rattle.tally_records.specs.declared.choice.LoginChoice.{LoginChoice}
use Rattle.tally_sessions.specs.declared.entry.Entry.{Entry}
use Rattle.tally_sessions.specs.declared.sums.Session.{Session}
use Rattle.tally_sessions.specs.Sums.{seconds_in, seconds_of_day, seconds_of_day_user, seconds_of_user, sessions_of}
use Rattle.tally_sessions.specs.Totals.{connect_of, latest_stays, limited, stays_of, total_of}

-- the seconds of sessions, of a user, on a day, and of a user on a day, of two lists are those of a third
pub record AddUp (clock : ℤ → ℤ) (day : ℤ) (user : List ℕ) (some others all : List Session) : Type 0 where
  pub total : seconds_in some + seconds_in others ≡ seconds_in all
  pub of_user : seconds_of_user user some + seconds_of_user user others ≡ seconds_of_user user all
  pub on_day : seconds_of_day clock day some + seconds_of_day clock day others ≡ seconds_of_day clock day all
  pub of_user_on_day : seconds_of_day_user clock day user some + seconds_of_day_user clock day user others ≡ seconds_of_day_user clock day user all

-- a choice with another period
abbrev pub in_period : Option ℤ → Option ℤ → LoginChoice → LoginChoice
in_period from to choice = record choice { period = record { from = from; to = to } }

-- a period up to a moment and the one from it on add up to the whole
abbrev pub PeriodsAddUp : Type 0
PeriodsAddUp = (choice : LoginChoice) (from to : Option ℤ) (moment : ℤ) → IfSome from (λ begin. begin ≤ℤ moment) → IfSome to (λ end. moment ≤ℤ end)
    → (clock : ℤ → ℤ) (day : ℤ) (user : List ℕ) (entries : List Entry) (until : Option ℤ)
    → AddUp clock day user (sessions_of (in_period from (Some moment) choice) entries until) (sessions_of (in_period (Some moment) to choice) entries until)
    (sessions_of (in_period from to choice) entries until)

-- each user of some names is of just one of two other lists of names
abbrev pub AreParted : List (Option (List ℕ)) → List (Option (List ℕ)) → List (Option (List ℕ)) → Type 0
AreParted some others all = (user : List ℕ)
    → (if is_among some user then 1 else 0) + (if is_among others user then 1 else 0) ≡ (if is_among all user then 1 else 0)

-- some users and the others add up to all of them
abbrev pub UsersAddUp : Type 0
UsersAddUp = (choice : LoginChoice) (some others : List (Option (List ℕ))) → AreParted some others choice.users
    → (clock : ℤ → ℤ) (day : ℤ) (user : List ℕ) (entries : List Entry) (until : Option ℤ)
    → AddUp clock day user (sessions_of (record choice { users = some }) entries until) (sessions_of (record choice { users = others }) entries until)
    (sessions_of choice entries until)

-- a choice that names nothing has all stays, and all that ended sessions count, and any other such choice has the same sessions
pub record EveryIsChosen (entries : List Entry) (until : Option ℤ) : Type 0 where
  pub stays : (host : ℕ) (limit : Option ℕ) → latest_stays host limit every_login entries until ≡ limited limit (reverse (stays_of host entries until))
  pub total : seconds_in (sessions_of every_login entries until) ≡ total_of entries until
  pub users : (user : List ℕ) → seconds_of_user user (sessions_of every_login entries until) ≡ connect_of user entries until
  pub alike : (choice : LoginChoice) → is_every_login choice ≡ true → sessions_of choice entries until ≡ sessions_of every_login entries until

-- this is so of every list of entries, and for every moment to count to
abbrev pub NothingIsLeftOut : Type 0
NothingIsLeftOut = (entries : List Entry) (until : Option ℤ) → EveryIsChosen entries until
