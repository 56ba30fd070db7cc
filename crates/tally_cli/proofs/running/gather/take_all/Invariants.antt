use Rattle.std.proofs.Common.{◌≡◌, ◌+◌, ◌≤◌, ◌++◌, List, length, map, vec_len}
use Rattle.std.specs.List.{flat_map}
use Rattle.std.specs.Prelude.{sum_by}
use Rattle.std.specs.Vec.{vec_capacity}
use Rattle.tally_cli.specs.declared.running.task.Task.{Task}
use Rattle.tally_cli.specs.inside.Failures.{AreTaken}
use Rattle.tally_cli.proofs.running.gather.take_all.Given as goal

abbrev pub invariant-loop-tasks : goal.invariant-loop-tasks
invariant-loop-tasks g l = record {
  room : vec_len l.passes + sum_by length (map (λ v. v.items) l.lists.items) ≤ vec_capacity l.passes;
  popped : (done : List (Task _)) × (flat_map (λ v. v.items) l.fn.lists.items ≡ flat_map (λ v. v.items) l.lists.items ++ done)
      × AreTaken done l.passes.items l.failure;
}

abbrev pub decreases-loop-tasks : goal.decreases-loop-tasks
decreases-loop-tasks g l = vec_len l.lists
