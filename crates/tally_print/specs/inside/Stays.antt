-- The chosen stays of a host, from the latest back.
use Rattle.std.specs.Prelude.{ℕ, ℤ, List, Option, filter, reverse}
use Rattle.tally_records.specs.declared.choice.LoginChoice.{LoginChoice}
use Rattle.tally_sessions.specs.Choice.{is_shown}
use Rattle.tally_sessions.specs.Totals.{stays_of}
use Rattle.tally_sessions.specs.declared.entry.Entry.{Entry}
use Rattle.tally_sessions.specs.declared.entry.Stay.{Stay}

-- all stays of a host, from the latest back
abbrev pub latest_back : ℕ → List Entry → Option ℤ → List Stay
latest_back host entries until = reverse (stays_of host entries until)

-- the chosen ones among them
abbrev pub chosen_back : ℕ → LoginChoice → List Entry → Option ℤ → List Stay
chosen_back host choice entries until = filter (is_shown choice until) (latest_back host entries until)
