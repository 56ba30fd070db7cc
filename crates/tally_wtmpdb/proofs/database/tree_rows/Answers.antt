use Rattle.std.proofs.Common.{arith, refl}
use Rattle.std.proofs.lemmas.Result.{IfErr-weaker, IfOk-weaker}
use Rattle.tally_wtmpdb.proofs.Clean.{always_clean, open_failure, rows_of}
use Rattle.tally_wtmpdb.proofs.database.tree_rows.Goals as goal

pub invariant_of-store : goal.invariant_of-store
invariant_of-store c =
    let store = c.scan.new.store in
    record { served = store.served; stored = store.stored; cookie = store.cookie; marked = store.marked; safe = store.safe }

pub returns-clause-cause : goal.returns-clause-cause
returns-clause-cause c = IfErr-weaker c.scan.result _ _ (λ e failure. open_failure c.args.log.now c.args.db.now _ e failure) c.scan.ensures.error

pub returns-clause-rows : goal.returns-clause-rows
returns-clause-rows c = IfOk-weaker c.scan.result _ _ (λ rows same. rows_of c.args.log.now c.args.db.now _ _ c.args.tree rows.items (omega arith) c.in_ok-store.ensures.store same) (c.scan.ensures.rows (always_clean _ (λ _. refl) c.scan.new.store))
