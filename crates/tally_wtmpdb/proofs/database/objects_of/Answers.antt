use Rattle.std.proofs.Common.{refl, subst, sym}
use Rattle.sqlite_disk.specs.contracts.memory.MemoryDisk.TheImpl.{ghosts}
use Rattle.sqlite_store.specs.Unopened.{HasSomeFile, IsFullFile, state_of}
use Rattle.tally_wtmpdb.specs.declared.database.ReadError.TheVariants.{NoDatabase}
use Rattle.tally_wtmpdb.specs.inside.Files.{IsRefusal}
use Rattle.tally_wtmpdb.proofs.Clean.{honest_files, refusal_of}
use Rattle.tally_wtmpdb.proofs.database.objects_of.Goals as goal

pub returns-in-Ok-clause-objects : goal.returns-in-Ok-clause-objects
returns-in-Ok-clause-objects c =
    let read = c.in-Ok.ensures.ok (honest_files ghosts (λ _. refl) c.read_catalog.new.self) in
    record { pages = read.pages; recovers = read.found; objects_are = read.lists }

pub returns-in-Err-clause-cause : goal.returns-in-Err-clause-cause
returns-in-Err-clause-cause c =
    let before = c.args.files.now in
    let left = c.read_catalog.new.self in
    subst (IsRefusal NoDatabase (HasSomeFile before)) (sym c.error_of.ensures)
    (refusal_of (state_of before).faults (state_of left).faults (IsFullFile left) (HasSomeFile before) NoDatabase c.in-Err.error (c.in-Err.ensures.cause (honest_files ghosts (λ _. refl) left)))
