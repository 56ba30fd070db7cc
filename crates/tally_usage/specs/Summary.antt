-- What a contract sees of a summary.
use Rattle.std.specs.Prelude.{ℕ, List, Option, map}
use Rattle.tally_records.specs.declared.process.ProcRecord.{ProcRecord}
use Rattle.tally_usage.specs.declared.entry.ProcEntry.{ProcEntry}

-- a host and the records that are to be added with it
pub record Prepared : Type 0 where
  pub host : ℕ
  pub records : List ProcRecord

-- the entries in stored order, and what the summary is ready for
pub record Contents : Type 0 where
  pub entries : List ProcEntry
  pub ready : Option Prepared

-- the records as entries of the host
abbrev pub entries_of : ℕ → List ProcRecord → List ProcEntry
entries_of host rs = map (λ r. record { host = host; item = r }) rs
