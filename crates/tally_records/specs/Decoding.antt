-- Records from blocks of bytes.
use Rattle.std.specs.Prelude.{◌≡◌, ◌⊎◌, ℕ, ◌+◌, List, [], ◌∷◌, Result, Ok, Err}
use Rattle.tally_records.specs.declared.fault.RecordFault.{RecordFault}
use Rattle.tally_records.specs.declared.fault.BatchFault.{BatchFault}
use Rattle.tally_records.specs.declared.fault.BatchFault.TheVariants.{Bad, Memory}
use Rattle.tally_records.specs.declared.login.LoginRecord.{LoginRecord}

-- the record of block n before those of the blocks after it
abbrev pub first_decoded : {R : Type 0} → ℕ → Result R RecordFault → Result (List R) BatchFault → Result (List R) BatchFault
first_decoded n (Err fault) rest = Err (Bad n fault)
first_decoded n (Ok r) (Err fault) = Err fault
first_decoded n (Ok r) (Ok rs) = Ok (r ∷ rs)

-- the records of the blocks, which are numbered from n, or the first block that is none
abbrev pub decoded : {R : Type 0} → (List ℕ → Result R RecordFault) → ℕ → List (List ℕ) → Result (List R) BatchFault
decoded read n [] = Ok []
decoded read n (block ∷ blocks) = first_decoded n (read block) (decoded read (n + 1) blocks)

-- an answer is the outcome itself, or want of memory
abbrev pub IsRead : Result (List LoginRecord) BatchFault → Result (List LoginRecord) BatchFault → Type 0
IsRead outcome (Ok records) = outcome ≡ Ok records
IsRead outcome (Err fault) = (fault ≡ Memory) ⊎ (outcome ≡ Err fault)
