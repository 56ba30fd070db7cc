-- The lengths of which there is no batch.
use Rattle.std.specs.Prelude.{◌≡◌, ◌≢◌, ℕ, ◌<◌, ◌/◌, ◌%◌}
use Rattle.tally_records.specs.declared.batch.TheConstants.{BATCH_LIMIT}
use Rattle.tally_records.specs.declared.fault.BatchFault.{BatchFault}
use Rattle.tally_records.specs.declared.fault.BatchFault.TheVariants.{Memory, Length, TooMany, Bad}

-- so many bytes are no whole records of this size, or too many of them, and the fault says which
abbrev pub IsWrongLength : ℕ → ℕ → BatchFault → Type 0
IsWrongLength size bytes (Length n) = (n ≡ bytes) × (bytes % size ≢ 0)
IsWrongLength size bytes (TooMany n) = (n ≡ bytes / size) × (bytes % size ≡ 0) × (BATCH_LIMIT < n)
IsWrongLength size bytes Memory = ⊥
IsWrongLength size bytes (Bad index fault) = ⊥
