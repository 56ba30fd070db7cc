use Rattle.std.proofs.Common.{◌≡◌, ◌-◌, length}
use Rattle.tally_sessions.proofs.connect.DayChanges.{IsChanged, changes_of}
use Rattle.tally_sessions.proofs.connect.day_sums.add_changes.Given as goal

abbrev pub invariant-loop-place : goal.invariant-loop-place
invariant-loop-place l = record {
  all_days : length l.table ≡ 49717;
  changed : IsChanged (changes_of l.times l.span.begin l.span.end_time) l.fn.table l.table l.place;
}

abbrev pub decreases-loop-place : goal.decreases-loop-place
decreases-loop-place l = 49717 - l.place
