-- Which records start a session that is counted, and what is counted of it.
use Rattle.std.specs.Prelude.{◌≡◌, ◌<◌, ℕ, ℤ, List, Option, Some, None, Bool, true, codes, is_some, ◌&&◌, bytes_eq, nat_eq, not, if◌then◌else◌}
use Rattle.std.specs.List.{list_any}
use Rattle.tally_records.specs.Choice.{is_among, is_name, names_nothing}
use Rattle.tally_records.specs.Event.{event_of}
use Rattle.tally_records.specs.declared.choice.LoginChoice.{LoginChoice}
use Rattle.tally_records.specs.declared.login.LoginRecord.{LoginRecord}
use Rattle.tally_records.specs.declared.period.Period.{Period}
use Rattle.tally_records.specs.Text.{padded}
use Rattle.tally_sessions.specs.Choice.{begin_in, end_time_in, has_part, is_open}
use Rattle.tally_sessions.specs.Stays.{is_boot_event}
use Rattle.tally_sessions.specs.declared.sums.Part.{Part}
use Rattle.tally_sessions.specs.declared.sums.Session.{Session}
use Rattle.tally_sessions.specs.declared.track.ending.Ending.{Ending}
use Rattle.tally_sessions.specs.declared.track.ending.TheConstants.{NO_USER}
use Rattle.tally_sessions.specs.declared.track.parts.Pick.{Pick}
use Rattle.tally_sessions.specs.inside.Numbers.{Numbers, StandsAt}
use Rattle.tally_sessions.specs.inside.Track.{is_login_event}

-- a choice names users or lines
abbrev pub has_names : LoginChoice → Bool
has_names choice = not (names_nothing choice.users && names_nothing choice.lines)

-- a record is of a chosen user and of a chosen line
abbrev pub is_named : LoginChoice → LoginRecord → Bool
is_named choice r = is_among choice.users r.user && is_among choice.lines r.line

-- a record is the login of a chosen user on a chosen line
abbrev pub is_of : LoginChoice → LoginRecord → Bool
is_of choice r = is_login_event (event_of r) && is_named choice r

-- a running time is of a chosen user and on a chosen line
abbrev pub is_boot_named : LoginChoice → Bool
is_boot_named choice = is_among choice.users (padded 32 (codes "reboot")) && names_nothing choice.lines

-- a record starts a stay of a chosen user on a chosen line
abbrev pub is_shown_by : LoginChoice → LoginRecord → Bool
is_shown_by choice r = if is_boot_event (event_of r) then is_boot_named choice else is_named choice r

-- when a stay that ends so is over, if it is
abbrev pub over_at : Option ℤ → Ending → Option ℤ
over_at until e = if is_open e.end && not (is_some until) then None else Some e.end_time

-- the stay that ends so has some part in the period
abbrev pub has_part_of : LoginChoice → Option ℤ → Ending → Bool
has_part_of choice until e = has_part choice.period e.begin (over_at until e)

-- what a period has of a session that ends so
abbrev pub part_of : Period → Ending → Part
part_of period e = record { begin = begin_in period e.begin; end_time = end_time_in period e.end_time }

-- the session of a user
abbrev pub part_of_user : List ℕ → Part → Session
part_of_user user part = record { user = user; begin = part.begin; end_time = part.end_time }

-- the number of a name, where it is this one
abbrev pub number_of : List ℕ → List ℕ × ℕ → ℕ
number_of user e = if bytes_eq e.0 user then e.1 else 0

-- a user that stands at a place is one of these names where the place is one of these
abbrev pub ArePlacesOf : Numbers → List (Option (List ℕ)) → List ℕ → Type 0
ArePlacesOf users names places =
    (place : ℕ) (user : List ℕ) → StandsAt users place user → place < NO_USER → list_any (λ p. nat_eq p place) places ≡ list_any (is_name user) names

-- what is worked out of a choice for a table of users
pub record IsPick (users : Numbers) (choice : LoginChoice) (pick : Pick) : Type 0 where
  pub by_user : pick.by_user ≡ not (names_nothing choice.users)
  pub by_line : pick.by_line ≡ not (names_nothing choice.lines)
  pub places : pick.by_user ≡ true → ArePlacesOf users choice.users pick.places
