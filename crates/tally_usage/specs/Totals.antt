-- What a table of groups holds: the usage of each group's records.
use Rattle.std.specs.Prelude.{◌≡◌, Bool, List, Some, if◌then◌else◌, filter, map, unwrap_or}
use Rattle.std.specs.Map.{lookup}
use Rattle.tally_records.specs.declared.process.ProcRecord.{ProcRecord}
use Rattle.tally_usage.specs.declared.entry.ProcEntry.{ProcEntry}
use Rattle.tally_usage.specs.declared.usage.Usage.{Usage}
use Rattle.tally_usage.specs.Usage.{no_usage, plus, usage_of}

-- the records of the entries
abbrev pub records_of : List ProcEntry → List ProcRecord
records_of entries = map (λ e. e.item) entries

module _ {K : Type 0} (eq : K → K → Bool) where
  -- what a table has for a key
  abbrev pub usage_at : List (K × Usage) → K → Usage
  usage_at totals k = unwrap_or (lookup (eq k) totals) no_usage

  -- the key has so much more, and every other key what it had
  pub record HasMore (old new : List (K × Usage)) (k : K) (more : Usage) : Type 0 where
    pub at : (q : K) → lookup (eq q) new ≡ (if eq k q then Some (plus (usage_at old k) more) else lookup (eq q) old)

module _ {K : Type 0} (eq : K → K → Bool) (key_of : ProcRecord → K) where
  -- the records whose group has this key
  abbrev pub records_with : K → List ProcRecord → List ProcRecord
  records_with k rs = filter (λ r. eq k (key_of r)) rs

  -- each key has the usage of its records, and a key that is not there has no records
  pub record HasTotals (totals : List (K × Usage)) (rs : List ProcRecord) : Type 0 where
    pub at : (k : K) → unwrap_or (lookup (eq k) totals) no_usage ≡ usage_of (records_with k rs)
