use Rattle.std.proofs.Common.{rules, ◌≡◌, ◌<◌, arith, get_or, length}
use Rattle.std.proofs.lemmas.List.{get_or_default}
use Rattle.tally_cli.specs.inside.Counts.{CameOf, ProcFile}
use Rattle.tally_cli.proofs.Counted.{counted_more, sums_more}
use Rattle.tally_cli.proofs.running.counting.count_list.Goals as goal

pub loop-at-preserved : goal.loop-at-preserved
loop-at-preserved g c =
    let before = c.loop-at.invariant in
    let ts = c.args.files.now in
    let us = c.loop-at.files in
    let at = c.loop-at.at in
    let x : ProcFile g.row.I.Denot = get_or us at c.index-files-at.result in
    let near : at < length ts = search rules in
    let is : x ≡ get_or us at x = get_or_default us at c.index-files-at.result x (omega (arith, near, before.counted.length_is)) in
    record {
      counted = counted_more (CameOf c.args.choice.now g.I.Input.to_come g.I.Input.can_fail) ts us at x c.count_file.new.file near is before.counted c.count_file.ensures.came;
      sums = sums_more (CameOf c.args.choice.now g.I.Input.to_come g.I.Input.can_fail) ts us at x c.count_file.new.file near is before.counted c.count_file.ensures.came before.sums c.if-not-count_file.ensures.done;
    }
