-- Which sessions a report is over: those of some users, on some lines, in a part of time.
use Rattle.std.specs.Prelude.{ℕ, Bool, false, not, ◌&&◌, ◌||◌, List, replicate, Option, Some, None, is_some, bytes_eq}
use Rattle.std.specs.List.{list_all, list_any}
use Rattle.tally_records.specs.declared.choice.LoginChoice.{LoginChoice}
use Rattle.tally_records.specs.Period.{always, is_always}

-- nothing is named
abbrev pub names_nothing : {X : Type 0} → List (Option X) → Bool
names_nothing names = list_all (λ name. not (is_some name)) names

-- a place of a choice has this name
abbrev pub is_name : List ℕ → Option (List ℕ) → Bool
is_name text None = false
is_name text (Some name) = bytes_eq name text

-- names choose a text: it is one of them, or there are none
abbrev pub is_among : List (Option (List ℕ)) → List ℕ → Bool
is_among names text = names_nothing names || list_any (is_name text) names

-- all sessions
abbrev pub every_login : LoginChoice
every_login = record { users = replicate 8 None; lines = replicate 8 None; period = always }

-- no session is left out
abbrev pub is_every_login : LoginChoice → Bool
is_every_login choice = names_nothing choice.users && names_nothing choice.lines && is_always choice.period
