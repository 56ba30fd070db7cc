-- What a choice of users alone has of a host, name by name.
use Rattle.std.specs.Prelude.{◌≡◌, ℕ, Bool, true, false, not, ◌&&◌, List, Option, Some, None, bytes_eq, filter, if◌then◌else◌, slice_index_or, sum_by, take}
use Rattle.std.specs.List.{list_any}
use Rattle.std.specs.Option.{option_eq}
use Rattle.tally_records.specs.Choice.{is_name, names_nothing}
use Rattle.tally_records.specs.Period.{is_always}
use Rattle.tally_records.specs.declared.choice.LoginChoice.{LoginChoice}
use Rattle.tally_sessions.specs.declared.entry.Stay.{Stay}
use Rattle.tally_sessions.specs.inside.Totals.{seconds_of}

-- a choice names users and no line, and is of the whole time
pub record IsOfUsers (choice : LoginChoice) : Type 0 where
  pub named : names_nothing choice.users ≡ false
  pub lines : names_nothing choice.lines ≡ true
  pub period : is_always choice.period ≡ true

-- what stands at a place of some names stands at one before it too
unfoldable pub stands_before : List (Option (List ℕ)) → ℕ → Bool
stands_before names place = list_any (λ p. option_eq bytes_eq p (slice_index_or names place None)) (take place names)

-- the name at a place of some names, where it stands at none before
abbrev pub new_name : List (Option (List ℕ)) → ℕ → Option (List ℕ)
new_name names place = if stands_before names place then None else slice_index_or names place None

-- the lengths of the sessions of a named user among stays
abbrev pub seconds_named : Option (List ℕ) → List Stay → ℕ
seconds_named None stays = 0
seconds_named (Some name) stays = seconds_of (Some name) stays

-- those of the users of some names
abbrev pub seconds_of_names : List (Option (List ℕ)) → List Stay → ℕ
seconds_of_names names stays = sum_by (λ s. s.length) (filter (λ s. not s.is_boot && list_any (is_name s.user) names) stays)

-- those of one user, where it is of these names
abbrev pub own_seconds : List ℕ → List (Option (List ℕ)) → List Stay → ℕ
own_seconds user names stays = if list_any (is_name user) names then seconds_of (Some user) stays else 0
