use Rattle.std.proofs.Common.{◌≡◌, List, ℕ, Result, Ok, Err, sym, subst, IfErr, IsErrAnd}
use Rattle.tally_wtmpdb.specs.Causes.{IsCauseIn, IsReadCause, as_fault}
use Rattle.tally_wtmpdb.specs.declared.database.ReadError.{ReadError}
use Rattle.tally_wtmpdb.specs.declared.database.ReadError.TheVariants.{OutOfMemory, NoDatabase, NoTable, Unsound}
use Rattle.tally_wtmpdb.specs.declared.fault.WtmpdbFault.{WtmpdbFault}
use Rattle.tally_wtmpdb.proofs.read.read_logins.Goals as goal

cause_in : (log db : List ℕ) (limit : ℕ) (e : ReadError) → IsReadCause log db e → IsCauseIn log db limit (as_fault e)
cause_in log db limit OutOfMemory h = tt
cause_in log db limit NoDatabase h = h
cause_in log db limit NoTable h = h
cause_in log db limit Unsound h = h

err_from : {T : Type 0} (P : WtmpdbFault → Type 0) (r : Result T WtmpdbFault) (e : WtmpdbFault) → IsErrAnd r (λ f. f ≡ e) → P e → IfErr r P
err_from P (Ok x) e h p = tt
err_from P (Err f) e h p = subst P (sym h) p

pub returns-in_err-rows-clause-cause : goal.returns-in_err-rows-clause-cause
returns-in_err-rows-clause-cause c =
    err_from (IsCauseIn c.args.log.now c.args.db.now c.args.limit) c.from_residual.result (as_fault c.in_err-rows.field-0.0) c.from_residual.ensures.1
    (cause_in c.args.log.now c.args.db.now c.args.limit c.in_err-rows.field-0.0 c.in_err-rows.ensures.cause)
