-- What a batch keeps, as records.
use Rattle.std.specs.Arc.{arc_value}
use Rattle.std.specs.Prelude.{ℕ, ◌≤◌, All, length, vec_len}
use Rattle.tally_records.specs.declared.batch.TheConstants.{BATCH_LIMIT}
use Rattle.tally_records.specs.declared.batch.Items.{Items}
use Rattle.tally_records.specs.declared.batch.Items.TheVariants as kept
use Rattle.tally_records.specs.PackedProc.{unpacked}
use Rattle.tally_records.specs.ProcRecord.{IsBounded}
use Rattle.tally_records.specs.Records.{Records, Logins, Procs, procs_in}

-- the records of either list
abbrev pub records_of : Items → Records
records_of (kept.Logins records) = Logins (arc_value records)
records_of (kept.Procs v) = Procs (unpacked (arc_value v).items)

-- how many there are
abbrev pub count_of : Items → ℕ
count_of (kept.Logins records) = length (arc_value records)
count_of (kept.Procs v) = vec_len (arc_value v)

-- what every batch keeps
pub record IsSound (items : Items) : Type 0 where
  pub few : count_of items ≤ BATCH_LIMIT
  pub bounded : All IsBounded (procs_in (records_of items))
