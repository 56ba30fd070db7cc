use Rattle.std.proofs.Common.{◌≡◌, ◌+◌, vec_len}
use Rattle.std.specs.Vec.{vec_capacity}
use Rattle.tally_cli.proofs.Taken.{ArePopped}
use Rattle.tally_cli.proofs.running.gather.take_list.Given as goal

abbrev pub invariant-loop-task : goal.invariant-loop-task
invariant-loop-task g l = record {
  room : vec_capacity l.passes ≡ vec_capacity l.fn.passes;
  count : vec_len l.passes + vec_len l.tasks ≡ vec_len l.fn.passes + vec_len l.fn.tasks;
  popped : ArePopped l.fn.tasks.items l.fn.passes.items l.fn.known l.tasks.items l.passes.items l.failure;
}

abbrev pub decreases-loop-task : goal.decreases-loop-task
decreases-loop-task g l = vec_len l.tasks
