-- Worked entries of process records and tables of groups, computed by the definitions.
use Rattle.std.proofs.Common.{◌≡◌, ℕ, nat_eq, ◌+◌, ◌*◌, ◌<◌, ◌≤◌, List, [], ◌∷◌, Bool, true, false, map, replicate, refl}
use Rattle.std.specs.Prelude.{codes}
use Rattle.tally_records.specs.Text.{padded}
use Rattle.tally_records.specs.declared.process.ProcRecord.{ProcRecord}
use Rattle.tally_records.specs.declared.process.packed.PackedProc.{PackedProc}
use Rattle.tally_records.specs.declared.process.packed.Version.TheVariants.{Two}
use Rattle.tally_usage.specs.Entries.{command_at, entries_kept, kept_in, no_command}
use Rattle.tally_usage.specs.Command.{command_of, is_same_command}
use Rattle.tally_usage.specs.Summary.{entries_of}
use Rattle.tally_usage.specs.Sums.{IsCauseAt}
use Rattle.tally_usage.specs.Totals.{records_of, records_with, usage_at}
use Rattle.tally_usage.specs.declared.command.Command.{Command}
use Rattle.tally_usage.specs.declared.entry.CompactProc.{CompactProc}
use Rattle.tally_usage.specs.declared.entry.KeptProc.{KeptProc}
use Rattle.tally_usage.specs.declared.entry.ProcEntry.{ProcEntry}
use Rattle.tally_usage.specs.declared.fault.SumsFault.TheVariants.{Full, Memory}
use Rattle.tally_usage.specs.declared.usage.TheConstants.{SUMS_LIMIT}
use Rattle.tally_usage.specs.declared.usage.Usage.{Usage}

abbrev make : List ℕ
make = padded 17 (codes "make")

abbrev once : List ℕ
once = padded 17 (codes "once")

-- a process of a user with a name and a flag
abbrev process : ℕ → List ℕ → ℕ → ProcRecord
process uid name flag = record { flag = flag; uid = uid; begin = 50; user_ticks = 8; system_ticks = 64; real_ticks = 16; mem = 65528; io = 17177772032; comm = name }

abbrev entry : ℕ → ProcRecord → ProcEntry
entry host r = record { host = host; item = r }

-- records under their host, in order
under_host : entries_of 3 (process 1000 make 0 ∷ process 0 once 1 ∷ []) ∷ entries_of 3 [] ∷ [] ≡ (entry 3 (process 1000 make 0) ∷ entry 3 (process 0 once 1) ∷ []) ∷ [] ∷ []
under_host = refl

-- and without it
without_host : records_of (entry 3 (process 1000 make 0) ∷ entry 0 (process 0 once 1) ∷ []) ≡ process 1000 make 0 ∷ process 0 once 1 ∷ []
without_host = refl

-- the same process with its numbers as comp_t
abbrev packed : ℕ → List ℕ → ℕ → PackedProc
packed uid name flag = record { uid = uid; begin = 50; elapsed = 8194; user_ticks = 8193; system_ticks = 16385; mem = 16383; io = 65535; version = Two; flag = flag; comm = name }

abbrev kept : ℕ → PackedProc → KeptProc
kept host item = record { host = host; item = item }

-- kept entries have each number worked out, and their host
from_kept : entries_kept (kept 3 (packed 1000 make 0) ∷ kept 0 (packed 0 once 1) ∷ []) ≡ entry 3 (process 1000 make 0) ∷ entry 0 (process 0 once 1) ∷ []
from_kept = refl

abbrev usage : ℕ → Usage
usage count = record { count = count; real = 10; cpu = 20; io = 30; mem_cpu = 40 }

abbrev group : List ℕ → Bool → Command
group name forked = record { name = name; forked = forked }

abbrev groups : List (Command × Usage)
groups = (group make false, usage 1) ∷ (group make true, usage 2) ∷ (group once true, usage 3) ∷ []

-- places of groups count from 0, and past the last there is one without a name or a mark
by_place : map (command_at groups) (0 ∷ 1 ∷ 2 ∷ 3 ∷ []) ≡ group make false ∷ group make true ∷ group once true ∷ group (replicate 17 0) false ∷ []
by_place = refl

no_group : no_command ≡ group (replicate 17 0) false
no_group = refl

-- compact fields of a user with a number, and half of the flag
abbrev compact : ℕ → ℕ → ℕ → ℕ → CompactProc
compact host uid number half_flag = record { host = host; item = record { uid = uid; begin = 50; elapsed = 8194; user_ticks = 8193; system_ticks = 16385; mem = 16383; io = 65535; rest = number * 256 + half_flag } }

-- they have the name and the mark of the group that their number stands for
from_compact : kept_in groups (compact 3 1000 0 0 ∷ compact 3 1000 1 13 ∷ compact 0 0 2 1 ∷ []) ≡ kept 3 (packed 1000 make 0) ∷ kept 3 (packed 1000 make 27) ∷ kept 0 (packed 0 once 3) ∷ []
from_compact = refl

-- what a table has for a group is nothing where the group is not there
of_group : map (usage_at is_same_command groups) (group make true ∷ group once true ∷ group once false ∷ []) ≡ usage 2 ∷ usage 3 ∷ record { count = 0; real = 0; cpu = 0; io = 0; mem_cpu = 0 } ∷ []
of_group = refl

of_user : map (usage_at nat_eq ((0, usage 1) ∷ (1000, usage 2) ∷ [])) (1000 ∷ 0 ∷ 1 ∷ []) ≡ usage 2 ∷ usage 1 ∷ record { count = 0; real = 0; cpu = 0; io = 0; mem_cpu = 0 } ∷ []
of_user = refl

abbrev build : List ProcRecord
build = process 1000 make 0 ∷ process 0 make 1 ∷ process 0 once 0 ∷ process 1000 make 2 ∷ []

-- the records of a key, in order
with_group : records_with is_same_command command_of (group make false) build ≡ process 1000 make 0 ∷ process 1000 make 2 ∷ []
with_group = refl

with_user : records_with nat_eq (λ r. r.uid) 0 build ∷ records_with nat_eq (λ r. r.uid) 7 build ∷ [] ≡ (process 0 make 1 ∷ process 0 once 0 ∷ []) ∷ [] ∷ []
with_user = refl

-- sums count up to 2 ^ 28 records, and one more is too many
sums_limit : SUMS_LIMIT ≡ 268435456
sums_limit = refl

too_many : IsCauseAt 268435457 Full ≡ (268435456 < 268435457)
too_many = refl

not_too_many : IsCauseAt 268435456 Memory ≡ (268435456 ≤ 268435456)
not_too_many = refl
