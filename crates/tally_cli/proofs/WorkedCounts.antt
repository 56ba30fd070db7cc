-- Worked examples of counts, computed by the definitions.
use Rattle.std.proofs.Common.{◌≡◌, ◌*◌, ℕ, List, [], ◌∷◌, ◌++◌, None, Ok, Err, Some, map, refl, replicate}
use Rattle.tally_desk.specs.declared.fault.CountFault.TheVariants as count
use Rattle.tally_desk.specs.Batches.{records_in}
use Rattle.tally_desk.specs.Blocks.{pieces}
use Rattle.tally_desk.specs.declared.fault.FeedFault.TheVariants as feed
use Rattle.tally_print.specs.declared.output.PrintFault.TheVariants as print
use Rattle.tally_records.specs.Elapsed.{elapsed_of, rounded_down}
use Rattle.tally_records.specs.Text.{text_of, u16_at, u32_at}
use Rattle.tally_records.specs.declared.batch.Kind.TheVariants.{Proc}
use Rattle.tally_records.specs.declared.fault.RecordFault.TheVariants.{ProcVersion}
use Rattle.tally_usage.specs.Choice.{every_proc}
use Rattle.tally_usage.specs.declared.usage.TheConstants.{SUMS_LIMIT}
use Rattle.tally_cli.specs.Runs.{Told, fault_of, good_logins, good_procs}
use Rattle.tally_cli.specs.Usages.{callers_refused, count_told, unwritten_calls, usage_fault_from}
use Rattle.tally_cli.specs.declared.fault.UsageFault.TheVariants.{Callers, File, Full, Memory, Write}
use Rattle.tally_cli.specs.declared.running.counting.TheConstants.{FILE_BLOCKS}

-- a file has as many records as are counted of all files
limits : FILE_BLOCKS ∷ FILE_BLOCKS * 1024 ∷ SUMS_LIMIT ∷ [] ≡ 262144 ∷ 268435456 ∷ 268435456 ∷ []
limits = refl

-- a number of callers is named as far as 32 bits hold it
numbers : map callers_refused (0 ∷ 129 ∷ 5000000000 ∷ []) ≡ Callers 0 ∷ Callers 129 ∷ Callers 4294967295 ∷ []
numbers = refl

-- a record of version 3 of nothing but zeros
abbrev nothing : List ℕ
nothing = 0 ∷ 3 ∷ replicate 62 0

abbrev file : List ℕ → Told
file bytes = record { kind = Proc; bytes = bytes }

-- two records, none, and one
counted : count_told every_proc (file (nothing ++ nothing) ∷ file [] ∷ file nothing ∷ []) ≡ 3
unfolding records_in
counted = refl

-- a file of two, one whose second record is bad, and one that ends inside its second
abbrev sound_and_not : List Told
sound_and_not = file (nothing ++ nothing) ∷ file (nothing ++ 0 ∷ 9 ∷ replicate 62 0) ∷ file (nothing ++ 0 ∷ []) ∷ []

-- the first fault of each file is its own
faults : map (fault_of 1048576) sound_and_not ≡ None ∷ Some (feed.Bad 1 (ProcVersion 9)) ∷ Some (feed.Torn 1 1) ∷ []
unfolding pieces elapsed_of rounded_down text_of u32_at u16_at
faults = refl

-- the records of a block with a fault are not stored, and none of these is a login
good_ones : good_procs 1048576 sound_and_not ∷ good_logins 1048576 sound_and_not ∷ [] ≡ 2 ∷ 0 ∷ []
unfolding pieces records_in elapsed_of rounded_down text_of u32_at u16_at
good_ones = refl

-- the fault of a printer is the run's own, and a failed write alone is counted
print_faults : map usage_fault_from (print.Memory ∷ print.Write ∷ []) ≡ Memory ∷ Write ∷ []
print_faults = refl

failures : map unwritten_calls (Ok tt ∷ Err Write ∷ Err Memory ∷ Err (File 0 count.Read) ∷ Err (Full 1) ∷ Err (Callers 0) ∷ []) ≡ 0 ∷ 1 ∷ 0 ∷ 0 ∷ 0 ∷ 0 ∷ []
failures = refl
