-- Steps back: login records with a time before that of the record before them, where no recorded clock change says why.
use Rattle.std.specs.Prelude.{ℕ, ℤ, ◌-ℤ◌, List, [], ◌∷◌, ◌++◌, Option, Some, None, option_map, count_by, nat_lt, max}
use Rattle.std.specs.List.{fold, last_or}
use Rattle.tally_check.specs.declared.steps.Steps.{Steps}
use Rattle.tally_clock.specs.Days.{seconds_between}
use Rattle.tally_records.specs.declared.login.LoginRecord.{LoginRecord}
use Rattle.tally_sessions.specs.Clock.{shift}

-- the time of the last of some records
abbrev pub last_time : List LoginRecord → Option ℤ
last_time records = option_map (λ r. r.time) (last_or None records)

-- the seconds from a time on to one before it, where there is one
abbrev pub seconds_back : Option ℤ → ℤ → ℕ
seconds_back None time = 0
seconds_back (Some last) time = seconds_between time last

-- the time of a record, after these, by the clock as it was before the record moved it
abbrev pub unmoved_time : List LoginRecord → LoginRecord → ℤ
unmoved_time before r = r.time -ℤ shift before r

-- by how many seconds a record steps back behind the record before it
abbrev pub step_back : List LoginRecord → LoginRecord → ℕ
step_back before r = seconds_back (last_time before) (unmoved_time before r)

-- the steps of the records after these, 0 where one does not step back
abbrev pub steps_from : List LoginRecord → List LoginRecord → List ℕ
steps_from before [] = []
steps_from before (r ∷ rs) = step_back before r ∷ steps_from (before ++ r ∷ []) rs

-- how many records step back, and the greatest step
abbrev pub steps_in : List LoginRecord → Steps
steps_in records = record {
  count = count_by (nat_lt 0) (steps_from [] records);
  greatest = fold max 0 (steps_from [] records);
}
