use Rattle.std.proofs.Common.{rules, ◌<◌, ◌∙◌, ap, length, le_refl}
use Rattle.std.proofs.lemmas.List.{get_or_default}
use Rattle.tally_cli.specs.declared.running.task.Task.{Task}
use Rattle.tally_cli.proofs.Each.{done_set, each_set, explained_cut, left_set, stop_cut}
use Rattle.tally_cli.proofs.running.work.carry_out_all.Goals as goal

pub loop-at-preserved : goal.loop-at-preserved
loop-at-preserved g c =
    let before = c.loop-at.invariant in
    let near : c.loop-at.at < length c.args.tasks.items = search rules in
    let in_us : c.loop-at.at < length c.loop-at.tasks.items = search rules in
    record {
      works = each_set near c.index_mut.ensures.value (before.left _ _ (le_refl _)) before.works c.carry_out.ensures.works;
      left = left_set c.args.tasks.items c.loop-at.tasks.items c.loop-at.at c.carry_out.new.task before.left;
      done = done_set c.loop-at.tasks.items c.loop-at.at c.carry_out.new.task in_us before.done c.if-not-carry_out.ensures.done;
    }

pub returns-then-not-carry_out-clause-works : goal.returns-then-not-carry_out-clause-works
returns-then-not-carry_out-clause-works g c =
    let near : c.loop-at.at < length c.args.tasks.items = search rules in
    each_set near c.index_mut.ensures.value (c.loop-at.invariant.left _ _ (le_refl _)) c.loop-at.invariant.works c.carry_out.ensures.works

pub returns-then-not-carry_out-clause-explained : goal.returns-then-not-carry_out-clause-explained
returns-then-not-carry_out-clause-explained g c =
    let before = c.loop-at.invariant in
    let x = c.index_mut.result.now in
    let near : c.loop-at.at < length c.args.tasks.items = search rules in
    let is = c.index_mut.ensures.value ∙ (before.left c.loop-at.at x (le_refl c.loop-at.at) ∙ get_or_default c.args.tasks.items c.loop-at.at x c.carry_out.new.task near) in
    explained_cut c.args.tasks.items c.loop-at.tasks.items c.loop-at.at c.carry_out.new.task near before.works.count before.left before.done c.if-not-carry_out.ensures.done
    (c.carry_out.ensures.works.keeps.number ∙ ap (λ (t : Task _). t.pass.number) is) c.requires.rising

pub returns-then-not-carry_out-clause-stops : goal.returns-then-not-carry_out-clause-stops
returns-then-not-carry_out-clause-stops g c =
    let before = c.loop-at.invariant in
    let near : c.loop-at.at < length c.args.tasks.items = search rules in
    stop_cut c.args.tasks.items c.loop-at.tasks.items c.loop-at.at c.carry_out.new.task near before.works.count before.left before.done c.if-not-carry_out.ensures.done
    (λ k d l. (c.requires.new k d l).untried)
