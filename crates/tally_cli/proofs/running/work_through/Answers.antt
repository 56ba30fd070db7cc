use Rattle.std.proofs.Common.{arith}
use Rattle.std.proofs.lemmas.List.Elements.{All-contains, All-weaker}
use Rattle.std.specs.List.{Contains, flat_map}
use Rattle.tally_desk.specs.Passes.{HasDone, PassState, Stands}
use Rattle.tally_cli.specs.declared.running.task.Task.{Task}
use Rattle.tally_cli.specs.inside.Tasks.{AreReady}
use Rattle.tally_cli.proofs.Carried.{all_explained, all_unmap, carried_out, flat_count, same_desk, same_sum}
use Rattle.tally_cli.proofs.running.work_through.Goals as goal

pub carry_out_lists-requires-after_bounds : goal.carry_out_lists-requires-after_bounds
carry_out_lists-requires-after_bounds g c κs within =
    all_unmap (AreReady g.I.Input.failures c.args.desk) (λ v. v.items) c.in_ok-lists.lists.items c.in_ok-lists.ensures.ready

pub take_all-failure-requires-clause-room : goal.take_all-failure-requires-clause-room
take_all-failure-requires-clause-room g c =
    let vs = c.in_ok-lists.lists.items in
    let us = c.in_ok-lists-2.lists.items in
    let same = same_sum g.I.Input.to_come g.I.Input.can_fail (λ v. v.items) vs us c.in_ok-lists-2.ensures in
    omega (arith, same, c.in_ok-lists.ensures.all, c.in_ok-back.ensures.capacity, c.len.ensures, c.args.passes.ok.0)

pub close_all-requires-clause-desk : goal.close_all-requires-clause-desk
close_all-requires-clause-desk g c =
    let vs = c.in_ok-lists.lists.items in
    let us = c.in_ok-lists-2.lists.items in
    let worked = c.in_ok-lists-2.ensures in
    let out = carried_out g.I.Input.to_come g.I.Input.can_fail c.args.asking (λ v. v.items) c.args.sources.items c.args.passes.items vs us c.in_ok-lists.ensures.dealt worked in
    same_desk c.args.desk.id (λ (p : PassState). p.desk) g.I.Input.to_come g.I.Input.can_fail c.args.asking c.args.sources.items c.args.passes.items c.take_all-failure.new.passes.items (flat_map (λ v. v.items) us)
    (λ t u w. w.keeps.desk) c.requires.desk out.only c.take_all-failure.ensures.taken.own

pub close_all-requires-clause-all : goal.close_all-requires-clause-all
close_all-requires-clause-all g c =
    let vs = c.in_ok-lists.lists.items in
    let us = c.in_ok-lists-2.lists.items in
    let same = same_sum g.I.Input.to_come g.I.Input.can_fail (λ v. v.items) vs us c.in_ok-lists-2.ensures in
    omega (arith, c.take_all-failure.ensures.taken.count, flat_count (λ v. v.items) us, same, c.in_ok-lists.ensures.all, c.requires.callers.0)

pub returns-clause-worked : goal.returns-clause-worked
returns-clause-worked g c =
    let vs = c.in_ok-lists.lists.items in
    let us = c.in_ok-lists-2.lists.items in
    let tasks = flat_map (λ v. v.items) us in
    let back = c.take_all-failure.new.passes.items in
    let book = c.close_all.result in
    let worked = c.in_ok-lists-2.ensures in
    record {
      tasks = tasks;
      carried = carried_out g.I.Input.to_come g.I.Input.can_fail c.args.asking (λ v. v.items) c.args.sources.items c.args.passes.items vs us c.in_ok-lists.ensures.dealt worked;
      explained = all_explained g.I.Input.to_come g.I.Input.can_fail (λ v. v.items) vs us worked;
      least = c.take_all-failure.ensures.taken.least;
      did = All-weaker (λ (t : Task g.row.I.Denot). Contains back t.pass) (λ (t : Task g.row.I.Denot). HasDone book t.pass)
          (λ t held. All-contains (HasDone book) back t.pass c.close_all.ensures.did held) tasks c.take_all-failure.ensures.taken.held;
      stand = All-weaker (λ (t : Task g.row.I.Denot). Contains back t.pass) (λ (t : Task g.row.I.Denot). Stands book t.pass)
          (λ t held. All-contains (Stands book) back t.pass c.close_all.ensures.stand held) tasks c.take_all-failure.ensures.taken.held;
    }
