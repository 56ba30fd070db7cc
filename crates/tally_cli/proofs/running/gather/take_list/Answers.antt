use Rattle.std.proofs.Common.{◌∙◌, ap, rules}
use Rattle.tally_cli.specs.inside.Failures.{failure_of}
use Rattle.tally_cli.proofs.Taken.{popped_more}
use Rattle.tally_cli.proofs.running.gather.take_list.Goals as goal

pub loop-task-preserved-in-Some : goal.loop-task-preserved-in-Some
loop-task-preserved-in-Some g c = record {
  room = search rules;
  count = search rules;
  popped = popped_more _ c.in-Some.task c.loop-task.invariant.popped c.in-Some.ensures.items c.push_reserved.ensures.items (c.failure_in.ensures ∙ ap (λ n. failure_of n c.in-Some.task.outcome) c.number.ensures) c.lesser-failure.ensures.among c.lesser-failure.ensures.least;
}

pub loop-task-preserved : goal.loop-task-preserved
loop-task-preserved g c = record {
  room = search rules;
  count = search rules;
  popped = popped_more _ c.in-Some.task c.loop-task.invariant.popped c.in-Some.ensures.items c.push_reserved.ensures.items (c.failure_in.ensures ∙ ap (λ n. failure_of n c.in-Some.task.outcome) c.number.ensures) c.lesser-failure.ensures.among c.lesser-failure.ensures.least;
}
