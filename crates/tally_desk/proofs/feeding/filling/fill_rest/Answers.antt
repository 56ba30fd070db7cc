use Rattle.std.proofs.lemmas.Result.{err_from_is_err_and}
use Rattle.tally_desk.proofs.feeding.filling.fill_rest.Goals as goal

pub returns-in_err-more-clause-first : goal.returns-in_err-more-clause-first
returns-in_err-more-clause-first g c =
    let p = err_from_is_err_and c.from_residual.result c.from_residual.ensures.1 in
    rw p.1 tt

pub returns-in_err-more-clause-bound : goal.returns-in_err-more-clause-bound
returns-in_err-more-clause-bound g c =
    let p = err_from_is_err_and c.from_residual.result c.from_residual.ensures.1 in
    rw p.1 tt

pub returns-in_err-more-clause-bytes : goal.returns-in_err-more-clause-bytes
returns-in_err-more-clause-bytes g c =
    let p = err_from_is_err_and c.from_residual.result c.from_residual.ensures.1 in
    rw p.1 tt

pub returns-in_err-more-clause-end : goal.returns-in_err-more-clause-end
returns-in_err-more-clause-end g c =
    let p = err_from_is_err_and c.from_residual.result c.from_residual.ensures.1 in
    rw p.1 tt

pub returns-in_err-more-clause-ok : goal.returns-in_err-more-clause-ok
returns-in_err-more-clause-ok g c =
    let p = err_from_is_err_and c.from_residual.result c.from_residual.ensures.1 in
    rw p.1 tt

pub returns-in_err-more-clause-nature : goal.returns-in_err-more-clause-nature
returns-in_err-more-clause-nature g c = c.fill.ensures.nature

pub returns-in_err-more-clause-err : goal.returns-in_err-more-clause-err
returns-in_err-more-clause-err g c =
    let p = err_from_is_err_and c.from_residual.result c.from_residual.ensures.1 in
    rw p.1 c.in_err-more.ensures.err

pub returns-in_err-more-clause-cause : goal.returns-in_err-more-clause-cause
returns-in_err-more-clause-cause g c =
    let p = err_from_is_err_and c.from_residual.result c.from_residual.ensures.1 in
    rw p.1 c.in_err-more.ensures.cause

pub returns-clause-nature : goal.returns-clause-nature
returns-clause-nature g c = c.fill.ensures.nature

pub returns-clause-ok : goal.returns-clause-ok
returns-clause-ok g c = c.in_ok-more.ensures.ok

pub returns-clause-err : goal.returns-clause-err
returns-clause-err g c = tt

pub returns-clause-cause : goal.returns-clause-cause
returns-clause-cause g c = tt
