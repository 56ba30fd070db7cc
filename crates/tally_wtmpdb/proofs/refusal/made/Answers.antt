use Rattle.std.proofs.Common.{inl, inr, subst}
use Rattle.tally_wtmpdb.specs.Causes.{IsCauseIn}
use Rattle.tally_wtmpdb.proofs.refusal.made.Goals as goal

pub returns-in-Err-NoDatabase-clause-cause : goal.returns-in-Err-NoDatabase-clause-cause
returns-in-Err-NoDatabase-clause-cause c =
    let cause = subst (IsCauseIn c.args.log.now c.args.db.now c.args.most) c.in-Err-NoDatabase.field-0-is c.in-Err-NoDatabase.ensures.cause in
    c.refused.ensures c.args.most c.args.journal.now c.args.log.now (inl cause) cause

pub returns-in-Err-Unsound-clause-cause : goal.returns-in-Err-Unsound-clause-cause
returns-in-Err-Unsound-clause-cause c =
    let cause = subst (IsCauseIn c.args.log.now c.args.db.now c.args.most) c.in-Err-Unsound.field-0-is c.in-Err-Unsound.ensures.cause in
    c.refused-in-Err-Unsound.ensures c.args.most c.args.journal.now c.args.log.now (inr cause) cause
