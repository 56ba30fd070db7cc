use Rattle.std.proofs.Common.{[]}
use Rattle.std.proofs.lemmas.Result.{err_from_is_err_and}
use Rattle.tally_line.proofs.FileLemmas.{names_more, word_fault}
use Rattle.tally_line.proofs.files.files_of.Goals as goal

pub returns-in_err-file-clause-err : goal.returns-in_err-file-clause-err
returns-in_err-file-clause-err c =
    let p = err_from_is_err_and c.from_residual.result c.from_residual.ensures.1 in
    rw (p.1, p.2) (word_fault _ c.args.words.now _ (record { ref_ptr = (0, 0); now = [] }) _ _ c.loop-index-test.true c.loop-index.invariant c.in_err-file.ensures.err)

pub loop-index-preserved : goal.loop-index-preserved
loop-index-preserved c = rw c.in_ok-push.ensures.items (names_more _ c.args.words.now _ (record { ref_ptr = (0, 0); now = [] }) _ _ c.loop-index-test.true
    c.in_ok-file.ensures.word c.in_ok-file.ensures.kind c.loop-index.invariant)
