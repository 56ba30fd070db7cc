-- Records that were read from bytes.
use Rattle.std.proofs.Common.{◌≡◌, ◌∙◌, ◌+◌, ◌/◌, ◌%◌, ◌≤◌, ℕ, zero, suc, List, [], ◌∷◌, Option, Some, None, Result, Ok, Err, drop, length, ap, sym, refl, subst, arith}
use Rattle.std.specs.Prelude.{ok_or, slice_index}
use Rattle.std.specs.List.{filter_map}
use Rattle.std.specs.Result.{result_ok}
use Rattle.std.specs.Simd.{first_chunks}
use Rattle.std.proofs.lemmas.Bool.Decides.{nat_tests}
use Rattle.tally_records.specs.Decoding.{decoded, first_decoded}
use Rattle.tally_records.specs.FailedLogin.{failed_of, failed_result}
use Rattle.tally_records.specs.LoginRecord.{login_of, login_result, login_type}
use Rattle.tally_records.specs.ProcRecord.{proc_of, proc_result}
use Rattle.tally_records.specs.Records.{Records, IsAnswer, Logins, Procs, as_batch, batch_of as batch_read, record_count}
use Rattle.tally_records.specs.declared.batch.Kind.{Kind}
use Rattle.tally_records.specs.declared.batch.Kind.TheVariants.{Login, FailedLogin, Proc}
use Rattle.tally_records.specs.declared.fault.BatchFault.{BatchFault}
use Rattle.tally_records.specs.declared.fault.BatchFault.TheVariants as batch
use Rattle.tally_records.specs.declared.fault.RecordFault.{RecordFault}
use Rattle.tally_records.specs.declared.fault.RecordFault.TheVariants.{LoginType, ProcVersion}
use Rattle.tally_desk.specs.Batches.{batch_of, record_size, records_in, whole_pieces}
use Rattle.tally_desk.specs.Blocks.{block_size}

pub length-first_chunks : (size k : ℕ) (bytes : List ℕ) → length (first_chunks size k bytes) ≡ k
length-first_chunks size zero bytes = refl
length-first_chunks size (suc k) bytes = ap suc (length-first_chunks size k (drop size bytes))

-- all blocks were read, and these are their records
pub record AllRead {R : Type 0} (some : List ℕ → Option R) (blocks : List (List ℕ)) (rs : List R) : Type 0 where
  pub records : filter_map some blocks ≡ rs
  pub count : length rs ≡ length blocks

-- an outcome as a record, if it is one
ok_or-is : {R : Type 0} (one : Option R) (fault : RecordFault) → result_ok (ok_or one fault) ≡ one
ok_or-is None fault = refl
ok_or-is (Some r) fault = refl

module _ {R : Type 0} (some : List ℕ → Option R) (read : List ℕ → Result R RecordFault) (agrees : (block : List ℕ) → result_ok (read block) ≡ some block) where
  one_more : (n : ℕ) (block : List ℕ) (blocks : List (List ℕ)) (one : Result R RecordFault) (rest : Result (List R) BatchFault) (rs : List R)
      → some block ≡ result_ok one → ((qs : List R) → rest ≡ Ok qs → AllRead some blocks qs)
      → first_decoded n one rest ≡ Ok rs → AllRead some (block ∷ blocks) rs
  one_more n block blocks (Err fault) rest rs is others e = absurd cc
  one_more n block blocks (Ok r) (Err f) rs is others e = absurd cc
  one_more n block blocks (Ok r) (Ok qs) rs is others e =
      let all : r ∷ qs ≡ rs = cc in
      let more = others qs refl in
      subst (AllRead some (block ∷ blocks)) all (record {
        records = rw is (ap (λ l. r ∷ l) more.records);
        count = omega (arith, more.count);
      })

  pub decoded-ok : (n : ℕ) (blocks : List (List ℕ)) (rs : List R) → decoded read n blocks ≡ Ok rs → AllRead some blocks rs
  decoded-ok n [] rs e =
      let none : [] ≡ rs = cc in
      subst (AllRead some []) none (record { records = refl; count = refl })
  decoded-ok n (block ∷ blocks) rs e =
      one_more n block blocks (read block) (decoded read (n + 1) blocks) rs (sym (agrees block)) (decoded-ok (n + 1) blocks) e

module _ {R : Type 0} (read : List ℕ → Result R RecordFault) where
  one_more_bad : (n : ℕ) (one : Result R RecordFault) (rest : Result (List R) BatchFault) (f : BatchFault)
      → (rest ≡ Err f → (index : ℕ) × (bad : RecordFault) × (f ≡ batch.Bad index bad))
      → first_decoded n one rest ≡ Err f → (index : ℕ) × (bad : RecordFault) × (f ≡ batch.Bad index bad)
  one_more_bad n (Err fault) rest f others e = (n, fault, cc)
  one_more_bad n (Ok r) (Err g) f others e = others e
  one_more_bad n (Ok r) (Ok qs) f others e = absurd cc

  pub decoded-err : (n : ℕ) (blocks : List (List ℕ)) (f : BatchFault) → decoded read n blocks ≡ Err f
      → (index : ℕ) × (bad : RecordFault) × (f ≡ batch.Bad index bad)
  decoded-err n [] f e = absurd cc
  decoded-err n (block ∷ blocks) f e = one_more_bad n (read block) (decoded read (n + 1) blocks) f (decoded-err (n + 1) blocks f) e

as_batch-ok : {R : Type 0} (make : List R → Records) (outcome : Result (List R) BatchFault) (records : Records) → as_batch make outcome ≡ Ok records
    → (rs : List R) × (outcome ≡ Ok rs) × (records ≡ make rs)
as_batch-ok make (Ok rs) records e = (rs, refl, cc)
as_batch-ok make (Err f) records e = absurd cc

as_batch-err : {R : Type 0} (make : List R → Records) (outcome : Result (List R) BatchFault) (f : BatchFault) → as_batch make outcome ≡ Err f
    → outcome ≡ Err f
as_batch-err make (Ok rs) f e = absurd cc
as_batch-err make (Err g) f e = cc

-- bytes of a right length are read
batch_read_is : {R : Type 0} (make : List R → Records) (read : List ℕ → Result R RecordFault) (size : ℕ) (bytes : List ℕ) → length bytes % size ≡ 0 → length bytes / size ≤ 1024
    → batch_read make read size bytes ≡ as_batch make (decoded read 0 (whole_pieces size bytes))
batch_read_is make read size bytes whole few = grind (arith, nat_tests)

-- the bytes of a block were read
pub record IsRead (kind : Kind) (bytes : List ℕ) (records : Records) : Type 0 where
  pub is : records ≡ records_in kind bytes
  pub count : record_count records ≡ length bytes / record_size kind

-- records of one size and kind were read
read_of-ok : {R : Type 0} (make : List R → Records) (some : List ℕ → Option R) (read : List ℕ → Result R RecordFault) → ((block : List ℕ) → result_ok (read block) ≡ some block)
    → (size : ℕ) (bytes : List ℕ) (records : Records) → ((rs : List R) → record_count (make rs) ≡ length rs) → length bytes % size ≡ 0 → length bytes / size ≤ 1024
    → batch_read make read size bytes ≡ Ok records → (records ≡ make (filter_map some (whole_pieces size bytes))) × (record_count records ≡ length bytes / size)
read_of-ok make some read agrees size bytes records counts whole few e =
    let outcome = sym (batch_read_is make read size bytes whole few) ∙ e in
    let found = as_batch-ok make (decoded read 0 (whole_pieces size bytes)) records outcome in
    let all = decoded-ok some read agrees 0 (whole_pieces size bytes) found.0 found.1 in
    (found.2 ∙ ap make (sym all.records), ap record_count found.2 ∙ counts found.0 ∙ all.count ∙ length-first_chunks size (length bytes / size) bytes)

pub batch_of-ok : (kind : Kind) (bytes : List ℕ) (records : Records) → length bytes % record_size kind ≡ 0 → length bytes ≤ block_size kind
    → batch_of kind bytes ≡ Ok records → IsRead kind bytes records
unfolding records_in
batch_of-ok Login bytes records whole short e =
    let read = read_of-ok Logins login_of login_result (λ b. ok_or-is (login_of b) (LoginType (login_type b))) 384 bytes records (λ rs. refl) whole (omega arith) e in
    record { is = read.0; count = read.1 }
batch_of-ok FailedLogin bytes records whole short e =
    let read = read_of-ok Logins failed_of failed_result (λ b. refl) 384 bytes records (λ rs. refl) whole (omega arith) e in
    record { is = read.0; count = read.1 }
batch_of-ok Proc bytes records whole short e =
    let read = read_of-ok Procs proc_of proc_result (λ b. ok_or-is (proc_of b) (ProcVersion (slice_index b 1))) 64 bytes records (λ rs. refl) whole (omega arith) e in
    record { is = read.0; count = read.1 }

read_of-err : {R : Type 0} (make : List R → Records) (read : List ℕ → Result R RecordFault) (size : ℕ) (bytes : List ℕ) (f : BatchFault) → length bytes % size ≡ 0 → length bytes / size ≤ 1024
    → batch_read make read size bytes ≡ Err f → (index : ℕ) × (bad : RecordFault) × (f ≡ batch.Bad index bad)
read_of-err make read size bytes f whole few e =
    let outcome = sym (batch_read_is make read size bytes whole few) ∙ e in
    decoded-err read 0 (whole_pieces size bytes) f (as_batch-err make (decoded read 0 (whole_pieces size bytes)) f outcome)

pub batch_of-err : (kind : Kind) (bytes : List ℕ) (f : BatchFault) → length bytes % record_size kind ≡ 0 → length bytes ≤ block_size kind
    → batch_of kind bytes ≡ Err f → (index : ℕ) × (bad : RecordFault) × (f ≡ batch.Bad index bad)
batch_of-err Login bytes f whole short e = read_of-err Logins login_result 384 bytes f whole (omega arith) e
batch_of-err FailedLogin bytes f whole short e = read_of-err Logins failed_result 384 bytes f whole (omega arith) e
batch_of-err Proc bytes f whole short e = read_of-err Procs proc_result 64 bytes f whole (omega arith) e

-- a block of whole records has neither a wrong length nor too many records
pub never_length : (kind : Kind) (bytes : List ℕ) (f : BatchFault) (n : ℕ) → length bytes % record_size kind ≡ 0 → length bytes ≤ block_size kind
    → f ≡ batch.Length n → IsAnswer (Err f) (batch_of kind bytes) → ⊥
never_length kind bytes f n whole short is answer =
    let bad = batch_of-err kind bytes (batch.Length n) whole short (subst (λ g. IsAnswer (Err g) (batch_of kind bytes)) is answer) in
    let at = bad.2 in
    absurd cc

pub never_too_many : (kind : Kind) (bytes : List ℕ) (f : BatchFault) (n : ℕ) → length bytes % record_size kind ≡ 0 → length bytes ≤ block_size kind
    → f ≡ batch.TooMany n → IsAnswer (Err f) (batch_of kind bytes) → ⊥
never_too_many kind bytes f n whole short is answer =
    let bad = batch_of-err kind bytes (batch.TooMany n) whole short (subst (λ g. IsAnswer (Err g) (batch_of kind bytes)) is answer) in
    let at = bad.2 in
    absurd cc
