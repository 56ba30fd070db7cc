-- The fields of stored login entries.
use Rattle.std.specs.Prelude.{◌≡◌, ◌≤◌, ◌<◌, ℕ, Bool, true, false, List, All, length}
use Rattle.tally_sessions.specs.declared.entry.Entry.{Entry}
use Rattle.tally_sessions.specs.declared.sessions.TheConstants as sessions
use Rattle.tally_book.specs.declared.logins.Kept.{Kept}
use Rattle.tally_book.specs.declared.logins.Kept.TheVariants.{Listed, Counted}
use Rattle.tally_book.specs.declared.logins.LoginStore.TheInside.{Inside}
use Rattle.tally_book.specs.inside.LoginStates.{LoginState}

-- the entries in either form
abbrev pub entries_of : Kept → List Entry
entries_of (Listed entries) = entries
entries_of (Counted sessions) = sessions.entries

-- whether there are sessions
abbrev pub is_counted : Kept → Bool
is_counted (Listed entries) = false
is_counted (Counted sessions) = true

-- how many hosts the sessions are of, where there are sessions
abbrev pub hosts_of : ℕ → Kept → ℕ
hosts_of hosts (Listed entries) = hosts
hosts_of hosts (Counted sessions) = sessions.hosts

-- what is seen of them
abbrev pub state_of : Inside → LoginState
state_of a = record { hosts = a.hosts; entries = entries_of a.kept; is_counted = is_counted a.kept }

-- the entries are of the hosts, and so are the sessions
pub record IsSound (a : Inside) : Type 0 where
  pub some_hosts : 0 < a.hosts
  pub few_hosts : a.hosts ≤ sessions.HOST_LIMIT
  pub within : All (λ e. e.host < a.hosts) (entries_of a.kept)
  pub few : length (entries_of a.kept) ≤ sessions.ENTRY_LIMIT
  pub hosts : hosts_of a.hosts a.kept ≡ a.hosts
