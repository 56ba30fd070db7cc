use Rattle.std.proofs.Common.{◌∙◌, ◌++◌, arith}
use Rattle.tally_cli.proofs.Taken.{flat_more, sum_more}
use Rattle.tally_cli.proofs.running.gather.take_all.Goals as goal

pub loop-tasks-preserved : goal.loop-tasks-preserved
loop-tasks-preserved g c =
    let popped = c.loop-tasks.invariant.popped in
    let items = c.in-Some.ensures.items in
    let sums = sum_more (λ v. v.items) c.loop-tasks.lists.items c.pop.new.self.items c.in-Some.tasks items in
    record {
      room = omega (arith, c.loop-tasks.invariant.room, sums, c.take_list-failure.ensures.count, c.take_list-failure.ensures.room, c.in-Some.tasks.ok.0);
      popped = (
        c.in-Some.tasks.items ++ popped.0,
        popped.1 ∙ flat_more (λ v. v.items) c.loop-tasks.lists.items c.pop.new.self.items c.in-Some.tasks popped.0 items,
        c.take_list-failure.ensures.taken popped.0 popped.2,
      );
    }
