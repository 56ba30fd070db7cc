use Rattle.std.proofs.Common.{refl, subst, sym, ◌∙◌}
use Rattle.sqlite_disk.specs.contracts.memory.MemoryDisk.TheImpl.{ghosts}
use Rattle.sqlite_store.specs.Unopened.{HasFile, IsFullFile, image, state_of, wanted_by}
use Rattle.tally_wtmpdb.specs.declared.database.ReadError.TheVariants.{Unsound}
use Rattle.tally_wtmpdb.specs.inside.Files.{IsRefusal}
use Rattle.tally_wtmpdb.proofs.Clean.{always_clean, honest, honest_files, no_database, open_refusal, refusal_of, store_of}
use Rattle.tally_wtmpdb.proofs.database.open.Goals as goal

pub returns-in-Ok-clause-store : goal.returns-in-Ok-clause-store
returns-in-Ok-clause-store c =
    let over = c.in_ok-unopened.ensures.over in
    let opened = c.in-Ok.ensures in
    let it = c.in-Ok.store in
    let clean = honest ghosts (λ _. refl) it in
    store_of ghosts (λ _. refl) it c.args.log.now c.args.db.now _ (image c.in_ok-unopened.field-0) (state_of c.in_ok-unopened.field-0).page_size
    opened.ready.clean (opened.ready.is_open (always_clean ghosts (λ _. refl) it)) opened.ready.unaltered (opened.schema ∙ over.wanted) (sym (opened.kept clean).size) over.image_is over.named (opened.found clean)

pub returns-clause-cause : goal.returns-clause-cause
returns-clause-cause c =
    let over = c.in_ok-unopened.ensures.over in
    let before = c.in_ok-unopened.field-0 in
    let left = c.in-Err.field-0-1 in
    open_refusal c.args.log.now c.args.db.now _ (HasFile before) _ (no_database c.args.log.now c.args.db.now (state_of before).page_size (image before) (wanted_by before) _ over.named over.image_is over.wanted)
    (subst (IsRefusal Unsound (HasFile before)) (sym c.error_of.ensures) (refusal_of (state_of before).faults (state_of left).faults (IsFullFile left) (HasFile before) Unsound c.in-Err.error (c.in-Err.ensures.cause (honest_files ghosts (λ _. refl) left))))
