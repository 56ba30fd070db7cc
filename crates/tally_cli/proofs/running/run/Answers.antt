use Rattle.std.proofs.Common.{rules}
use Rattle.tally_cli.proofs.Reported.{at_fault, failed_unwritten}
use Rattle.tally_cli.proofs.running.run.Goals as goal

pub returns-in_err-_callers-clause-failed : goal.returns-in_err-_callers-clause-failed
returns-in_err-_callers-clause-failed g c =
    at_fault _ c.from_residual.result c.in_err-_callers.field-0.0 (search rules) (failed_unwritten (search rules) (search rules) (search rules) (search rules) (λ inputs tell. search rules))
