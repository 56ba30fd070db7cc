use Rattle.std.proofs.Common.{◌++◌, arith}
use Rattle.std.proofs.lemmas.Result.{err_from_is_err_and}
use Rattle.tally_sessions.specs.Days.{local}
use Rattle.tally.proofs.CheckLemmas.{by_one_more, first_not_checked}
use Rattle.tally.specs.Checks.{head_text}
use Rattle.tally.proofs.checking.check_all.Goals as goal

pub returns-in_err-checked-clause-refused : goal.returns-in_err-checked-clause-refused
returns-in_err-checked-clause-refused g c =
    let p = err_from_is_err_and c.from_residual-in_err-checked.result c.from_residual-in_err-checked.ensures.1 in
    rw (p.1, p.2) (first_not_checked (g.C.Checks.finds c.args.checker.now) (g.C.Checks.refuses c.args.checker.now) c.args.asked.now (local c.args.clock.now c.args.asked.now.offset)
    (c.args.text.now.items ++ head_text c.args.asked.now.form c.args.asked.now.paths) c.loop-at.text.items c.loop-at.is_doubtful c.loop-at.at c.in_err-checked.field-0.0
    c.loop-at.invariant (omega arith) c.in_err-checked.ensures.refused)

pub loop-at-preserved : goal.loop-at-preserved
loop-at-preserved g c =
    by_one_more (g.C.Checks.finds c.args.checker.now) c.args.asked.now (local c.args.clock.now c.args.asked.now.offset)
    (c.args.text.now.items ++ head_text c.args.asked.now.form c.args.asked.now.paths) c.loop-at.text.items c.push_file.new.text.items c.loop-at.is_doubtful
    c.is_doubtful_with-is_doubtful.result c.in_ok-checked.checked c.loop-at.at c.loop-at.invariant c.in_ok-checked.ensures.found c.is_doubtful_with-is_doubtful.ensures
