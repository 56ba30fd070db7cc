-- The sessions of all hosts, gone over host by host.
use Rattle.std.specs.Prelude.{ℕ, ℤ, List, [], ◌∷◌, ◌++◌, drop, Option}
use Rattle.std.specs.List.{flat_map}
use Rattle.tally_records.specs.declared.choice.LoginChoice.{LoginChoice}
use Rattle.tally_sessions.specs.declared.connect.walk.Place.{Place}
use Rattle.tally_sessions.specs.declared.connect.walk.Walk.{Walk}
use Rattle.tally_sessions.specs.declared.entry.Entry.{Entry}
use Rattle.tally_sessions.specs.declared.entry.Stay.{Stay}
use Rattle.tally_sessions.specs.declared.sums.Session.{Session}
use Rattle.tally_sessions.specs.Sums.{sessions_among}
use Rattle.tally_sessions.specs.Totals.{every_host, stays_of}

-- the stays of these hosts, without so many of the first host's
abbrev pub stays_after : ℕ → List ℕ → List Entry → Option ℤ → List Stay
stays_after passed [] entries until = []
stays_after passed (host ∷ hosts) entries until = drop passed (stays_of host entries until) ++ flat_map (λ next. stays_of next entries until) hosts

-- the stays from a place on
abbrev pub stays_ahead : Place → List Entry → Option ℤ → List Stay
stays_ahead at entries until = stays_after at.stay (drop at.host every_host) entries until

-- the chosen sessions among them
abbrev pub sessions_ahead : Place → LoginChoice → List Entry → Option ℤ → List Session
sessions_ahead at choice entries until = sessions_among choice (stays_ahead at entries until)

-- the same of a walk
abbrev pub ahead_of : Walk → List Session
ahead_of walk = sessions_ahead walk.at walk.choice.now walk.sessions.now.entries walk.until
