-- Records as they are kept.
use Rattle.std.specs.Prelude.{◌≡◌, ◌<◌, ◌⊎◌, ◌++◌, ◌∷◌, [], ℕ, All, List, length, map}
use Rattle.tally_records.specs.NumberedProc.{number_of}
use Rattle.tally_records.specs.declared.process.packed.PackedProc.{PackedProc}
use Rattle.tally_records.specs.declared.process.ProcRecord.{ProcRecord}
use Rattle.tally_usage.specs.declared.command.Command.{Command}
use Rattle.tally_usage.specs.declared.entry.CompactProc.{CompactProc}
use Rattle.tally_usage.specs.declared.entry.KeptProc.{KeptProc}
use Rattle.tally_usage.specs.declared.usage.Usage.{Usage}
use Rattle.tally_usage.specs.Entries.{entries_kept, kept_in}
use Rattle.tally_usage.specs.Totals.{records_of}

-- the records of kept fields
abbrev pub records_kept : List KeptProc → List ProcRecord
records_kept ks = records_of (entries_kept ks)

-- the records of compact fields
abbrev pub records_in : List (Command × Usage) → List CompactProc → List ProcRecord
records_in commands cs = records_kept (kept_in commands cs)

-- packed records as they are kept for a host
abbrev pub kept_of : ℕ → List PackedProc → List KeptProc
kept_of host ps = map (λ p. record { host = host; item = p }) ps

-- each number is the place of a group
abbrev pub AreNumbered : List (Command × Usage) → List CompactProc → Type 0
AreNumbered commands cs = All (λ c. number_of c.item < length commands) cs

-- the same keys, or these and one more after them
abbrev pub AreWith : {K : Type 0} → K → List K → List K → Type 0
AreWith key before after = (after ≡ before) ⊎ (after ≡ before ++ key ∷ [])
