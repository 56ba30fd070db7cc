use Rattle.std.proofs.Common.{◌≡◌, ℕ, ◌≤◌}
use Rattle.std.specs.Prelude.{slice_index_or}
use Rattle.tally_cli.specs.inside.Tasks.{EachWorks}
use Rattle.tally_cli.proofs.Each.{AreDone}
use Rattle.tally_cli.proofs.running.work.carry_out_all.Given as goal

abbrev pub invariant-loop-at : goal.invariant-loop-at
invariant-loop-at g l = record {
  works : EachWorks g.I.Input.to_come g.I.Input.can_fail l.initial.tasks.items l.tasks.items;
  left : (k : ℕ) (d : _) → l.at ≤ k → slice_index_or l.tasks.items k d ≡ slice_index_or l.initial.tasks.items k d;
  done : AreDone l.tasks.items l.at;
}
