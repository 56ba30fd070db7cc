-- Records read one after another.
use Rattle.std.proofs.Common.{◌≡◌, ℕ, ◌+◌, ◌/◌, ◌%◌, ◌≤◌, List, [], ◌∷◌, ◌++◌, length, Result, Ok, Err, sym, ap, ◌∙◌, inl, inr, ◌⊎◌, arith, subst}
use Rattle.std.proofs.lemmas.Bool.Decides.{nat_tests}
use Rattle.std.specs.Simd.{first_chunks}
use Rattle.tally_records.specs.declared.fault.RecordFault.{RecordFault}
use Rattle.tally_records.specs.declared.fault.BatchFault.{BatchFault}
use Rattle.tally_records.specs.declared.fault.BatchFault.TheVariants.{Memory, Length, TooMany, Bad}
use Rattle.tally_records.specs.Decoding.{decoded, first_decoded}
use Rattle.tally_records.specs.Records.{Records, IsAnswer, MayLackMemory, as_batch, batch_of}

-- the records so far and those of the rest
abbrev pub behind : {R : Type 0} → List R → Result (List R) BatchFault → Result (List R) BatchFault
behind done (Ok rs) = Ok (done ++ rs)
behind done (Err fault) = Err fault

-- a list of records is refused for a bad record alone
MayLackMemory-first : {R : Type 0} (batch : List R → Records) (n : ℕ) (r : Result R RecordFault) (rest : Result (List R) BatchFault) → MayLackMemory (as_batch batch rest) → MayLackMemory (as_batch batch (first_decoded n r rest))
MayLackMemory-first batch n (Err fault) rest h = tt
MayLackMemory-first batch n (Ok r) (Err fault) h = h
MayLackMemory-first batch n (Ok r) (Ok rs) h = tt

MayLackMemory-decoded : {R : Type 0} (batch : List R → Records) (read : List ℕ → Result R RecordFault) (n : ℕ) (blocks : List (List ℕ)) → MayLackMemory (as_batch batch (decoded read n blocks))
MayLackMemory-decoded batch read n [] = tt
MayLackMemory-decoded batch read n (block ∷ blocks) =
    MayLackMemory-first batch n (read block) (decoded read (n + 1) blocks) (MayLackMemory-decoded batch read (n + 1) blocks)

-- bytes of a right length are read
pub batch_of_is : {R : Type 0} (batch : List R → Records) (read : List ℕ → Result R RecordFault) (size : ℕ) (bytes : List ℕ) → length bytes % size ≡ 0 → length bytes / size ≤ 1024
    → batch_of batch read size bytes ≡ as_batch batch (decoded read 0 (first_chunks size (length bytes / size) bytes))
batch_of_is batch read size bytes whole few = grind (arith, nat_tests)

pub MayLackMemory-batch_of : {R : Type 0} (batch : List R → Records) (read : List ℕ → Result R RecordFault) (size : ℕ) (bytes : List ℕ) → length bytes % size ≡ 0 → length bytes / size ≤ 1024 → MayLackMemory (batch_of batch read size bytes)
MayLackMemory-batch_of batch read size bytes whole few =
    subst MayLackMemory (sym (batch_of_is batch read size bytes whole few)) (MayLackMemory-decoded batch read 0 (first_chunks size (length bytes / size) bytes))

-- a fault of the records is one of the batch
pub answered : {R : Type 0} (batch : List R → Records) (read : List ℕ → Result R RecordFault) (size : ℕ) (bytes : List ℕ) (fault : BatchFault) → length bytes % size ≡ 0 → length bytes / size ≤ 1024
    → (fault ≡ Memory) ⊎ (decoded read 0 (first_chunks size (length bytes / size) bytes) ≡ Err fault) → IsAnswer (Err fault) (batch_of batch read size bytes)
answered batch read size bytes fault whole few why = by fault (elim why [
  | inl e ↦ inl e
  | inr e ↦ inr (batch_of_is batch read size bytes whole few ∙ ap (as_batch batch) e)
])
  where
    may : MayLackMemory (batch_of batch read size bytes)
    may = MayLackMemory-batch_of batch read size bytes whole few

    by : (f : BatchFault) → (f ≡ Memory) ⊎ (batch_of batch read size bytes ≡ Err f) → IsAnswer (Err f) (batch_of batch read size bytes)
    by Memory h = may
    by (Length n) h = elim h [ inl e ↦ cc | inr e ↦ e ]
    by (TooMany n) h = elim h [ inl e ↦ cc | inr e ↦ e ]
    by (Bad i f) h = elim h [ inl e ↦ cc | inr e ↦ e ]
