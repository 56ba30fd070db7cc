use Rattle.std.proofs.Common.{rules, arith, map, ◌∙◌}
use Rattle.tally_cli.specs.inside.Files.{count_in}
use Rattle.tally_cli.proofs.Reported.{at_fault}
use Rattle.tally_cli.specs.inside.Parts.{report_lent}
use Rattle.tally_cli.proofs.Parts.{part_added}
use Rattle.tally_cli.proofs.Summed.{all_more, end_joined, has_sums, join_fault, sums_more}
use Rattle.tally_cli.proofs.running.counting.join_files.Goals as goal

pub returns-in_err-join_count-clause-fault : goal.returns-in_err-join_count-clause-fault
returns-in_err-join_count-clause-fault g c =
    let before = c.loop-host.invariant in
    let host = c.loop-host.host in
    let at = count_in c.args.feeders (map (λ v. v.items) c.args.lists.items) in
    let is = c.take_count-count.ensures.value ∙ before.left host (omega arith) in
    at_fault _ c.from_residual-in_err-join_count.result c.in_err-join_count.field-0.0 (search rules)
    (join_fault c.args.files at host c.loop-host-test.true c.take_count-count.result is c.loop-host.total before.all before.sums c.in_err-join_count.field-0.0 c.in_err-join_count.ensures.fault)

pub loop-host-preserved : goal.loop-host-preserved
loop-host-preserved g c =
    let before = c.loop-host.invariant in
    let host = c.loop-host.host in
    let at = count_in c.args.feeders (map (λ v. v.items) c.args.lists.items) in
    let is = c.take_count-count.ensures.value ∙ before.left host (omega arith) in
    let joins = c.in_ok-join_count.ensures.joined in
    record {
      width = c.take_count-count.ensures.all;
      placed = λ k l. c.take_count-count.ensures.placed k (before.placed k l);
      left = λ k l. c.take_count-count.ensures.others k (λ same. omega (arith, same, l)) ∙ before.left k (omega (arith, l));
      parts = part_added (report_lent c.args.report) at host c.take_count-count.result _ _ is (has_sums c.take_count-count.result _ _ joins) before.parts c.in_ok-add_part.ensures;
      all = all_more c.args.files at host c.loop-host-test.true c.take_count-count.result is c.loop-host.total before.all before.sums c.join_count.new.total joins;
      sums = sums_more c.args.files at host c.loop-host-test.true c.take_count-count.result is c.loop-host.total before.all before.sums c.join_count.new.total joins;
    }

pub returns-clause-joined : goal.returns-clause-joined
returns-clause-joined g c =
    let at = count_in c.args.feeders (map (λ v. v.items) c.args.lists.items) in
    end_joined c.args.files at c.loop-host.total c.loop-host.host (omega (arith, c.loop-host.auto.host-end, c.loop-host-test.false)) c.loop-host.invariant.all c.loop-host.invariant.sums
