-- Which process records a report is over: those of some users that began in a part of time.
use Rattle.std.specs.Prelude.{ℕ, pos, Bool, false, ◌&&◌, ◌||◌, nat_eq, List, filter, replicate, Option, Some, None}
use Rattle.std.specs.List.{list_any}
use Rattle.tally_records.specs.Choice.{names_nothing}
use Rattle.tally_records.specs.Period.{always, is_always, is_within}
use Rattle.tally_records.specs.declared.process.ProcRecord.{ProcRecord}
use Rattle.tally_usage.specs.declared.choice.ProcChoice.{ProcChoice}

-- a place of a choice has this number
abbrev pub is_number : ℕ → Option ℕ → Bool
is_number uid None = false
is_number uid (Some number) = nat_eq number uid

-- numbers choose a user: it is one of them, or there are none
abbrev pub is_number_among : List (Option ℕ) → ℕ → Bool
is_number_among uids uid = names_nothing uids || list_any (is_number uid) uids

-- all process records
abbrev pub every_proc : ProcChoice
every_proc = record { uids = replicate 8 None; period = always }

-- no record is left out
abbrev pub is_every_proc : ProcChoice → Bool
is_every_proc choice = names_nothing choice.uids && is_always choice.period

-- a record is chosen: by its user, and by the second at which the process began
abbrev pub is_chosen : ProcChoice → ProcRecord → Bool
is_chosen choice r = is_number_among choice.uids r.uid && is_within choice.period (pos r.begin)

-- the chosen of some records, in their order
abbrev pub chosen : ProcChoice → List ProcRecord → List ProcRecord
chosen choice rs = filter (is_chosen choice) rs
