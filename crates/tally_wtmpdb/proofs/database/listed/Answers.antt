use Rattle.std.proofs.lemmas.Result.{IfErr-weaker, IfOk-weaker}
use Rattle.sqlite_store.specs.Unopened.{HasSomeFile, image, state_of}
use Rattle.tally_wtmpdb.proofs.Clean.{listed_of, listing_refusal, no_databases}
use Rattle.tally_wtmpdb.proofs.database.listed.Goals as goal

pub returns-clause-objects : goal.returns-clause-objects
returns-clause-objects c =
    let over = c.in_ok-files.ensures.over in
    let files = c.in_ok-files.files in
    IfOk-weaker c.objects_of.result _ _ (λ objects listing. listed_of c.args.log.now c.args.db.now (state_of files).page_size (image files) objects.items over.named over.image_is listing) c.objects_of.ensures.objects

pub returns-clause-cause : goal.returns-clause-cause
returns-clause-cause c =
    let over = c.in_ok-files.ensures.over in
    let files = c.in_ok-files.files in
    IfErr-weaker c.objects_of.result _ _ (λ e refusal. listing_refusal c.args.log.now c.args.db.now (HasSomeFile files) e
    (no_databases c.args.log.now c.args.db.now (state_of files).page_size (image files) over.named over.image_is) refusal) c.objects_of.ensures.cause
