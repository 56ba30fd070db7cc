-- A batch of process records, seen as the list that it holds.
use Rattle.std.proofs.Common.{◌≡◌, length, refl}
use Rattle.tally_records.specs.Records.{Records, Logins, Procs, IsProcs, procs_in, record_count}
use Rattle.tally_records.specs.declared.batch.Kind.TheVariants.{Login, Proc}

pub record_count-is : (b : Records) → IsProcs b → record_count b ≡ length (procs_in b)
record_count-is (Logins rs) e = absurd (let f : Login ≡ Proc = e in cc)
record_count-is (Procs rs) e = refl
