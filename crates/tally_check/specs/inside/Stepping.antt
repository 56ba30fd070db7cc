-- Steps back, kept record by record.
use Rattle.std.specs.Prelude.{ℕ, ℤ, ◌+◌, ◌-ℤ◌, List, Option, Some, None, cond, max, nat_lt}
use Rattle.tally_check.specs.Steps.{last_time, seconds_back, steps_in}
use Rattle.tally_check.specs.declared.steps.Steps.{Steps}
use Rattle.tally_check.specs.declared.steps.Walk.{Walk}
use Rattle.tally_records.specs.Event.{event_of}
use Rattle.tally_records.specs.declared.login.Event.{Event}
use Rattle.tally_records.specs.declared.login.Event.TheVariants.{OldTime, NewTime}
use Rattle.tally_records.specs.declared.login.LoginRecord.{LoginRecord}
use Rattle.tally_sessions.specs.Clock.{pending_old_time, shift_at}

-- the old time that waits, after one event more
abbrev pub pending_after : Option ℤ → Event → ℤ → Option ℤ
pending_after pending OldTime time = Some time
pending_after pending NewTime time = None
pending_after pending _ time = pending

-- the steps and one more
abbrev pub with_step : Steps → ℕ → Steps
with_step steps step = record {
  count = steps.count + cond (nat_lt 0 step) 1 0;
  greatest = max steps.greatest step;
}

-- by how many seconds a record steps back
abbrev pub step_at : Walk → LoginRecord → ℕ
step_at walk r = seconds_back walk.last (r.time -ℤ shift_at (event_of r) walk.pending r.time)

-- what is kept after one record more
abbrev pub after : Walk → LoginRecord → Walk
after walk r = record {
  last = Some r.time;
  pending = pending_after walk.pending (event_of r) r.time;
  steps = with_step walk.steps (step_at walk r);
}

-- the same, where the bytes have a record
abbrev pub after_if : Walk → Option LoginRecord → Walk
after_if walk None = walk
after_if walk (Some r) = after walk r

-- what is kept after some records
abbrev pub walk_of : List LoginRecord → Walk
walk_of records = record {
  last = last_time records;
  pending = pending_old_time records;
  steps = steps_in records;
}
