use Rattle.std.proofs.Common.{inl}
use Rattle.std.proofs.lemmas.Result.{err_from_is_err_and}
use Rattle.clap.specs.Words.{found_of, rows_of}
use Rattle.tally_line.proofs.LineLemmas.{file_fault, run_found}
use Rattle.tally_line.proofs.words.report_under.Goals as goal

pub returns-in_err-files-clause-err : goal.returns-in_err-files-clause-err
returns-in_err-files-clause-err c =
    let p = err_from_is_err_and c.from_residual.result c.from_residual.ensures.1 in
    rw (p.1, p.2) (file_fault c.args.name.now (rows_of (found_of c.args.matches.now)) _ _ c.in-Some.ensures.named c.in_err-files.ensures.err)

pub returns-clause-ok : goal.returns-clause-ok
returns-clause-ok c =
    run_found c.args.name.now (rows_of (found_of c.args.matches.now)) _ _ _ _ _ _ _ c.in-Some.ensures.named (λ all. c.requires.complete.file (inl all))
    c.job_from-job.ensures.report c.job_from-job.ensures.runnable c.job_from-job.ensures.few c.job_from-job.ensures.asked c.job_from-job.ensures.form c.job_from-job.ensures.options
    c.times_in-times.ensures.value c.times_in-times.ensures.until c.in_ok-usage.ensures c.files_asked-apart.ensures c.in_ok-zone.ensures c.requires.sound c.in_ok-files.ensures.ok
