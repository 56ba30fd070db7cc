-- Worked examples, computed by the definitions.
use Rattle.std.proofs.Common.{◌≡◌, ℕ, List, [], ◌∷◌, ◌++◌, map, replicate, Some, None, Err, refl}
use Rattle.tally_records.specs.declared.batch.Kind.TheVariants.{Login, FailedLogin, Proc}
use Rattle.tally_records.specs.declared.fault.BatchFault.TheVariants as batch
use Rattle.tally_records.specs.declared.fault.RecordFault.TheVariants as record_fault
use Rattle.tally_records.specs.Records.{logins_in}
use Rattle.tally_records.specs.Text.{i16_at, i32_at, text_of, u16_at, u32_at}
use Rattle.tally_records.specs.declared.login.LoginRecord.{LoginRecord}
use Rattle.tally_desk.specs.Batches.{records_in, stored_kind}
use Rattle.tally_desk.specs.Blocks.{bad_record, block_fault, pieces}
use Rattle.tally_desk.specs.declared.fault.FeedFault.TheVariants.{Torn, TooLong, Bad}

-- bytes are cut into pieces, the last one shorter
cut : pieces 3 (1 ∷ 2 ∷ 3 ∷ 4 ∷ 5 ∷ 6 ∷ 7 ∷ []) ∷ pieces 3 (1 ∷ 2 ∷ 3 ∷ []) ∷ pieces 3 [] ∷ [] ≡ ((1 ∷ 2 ∷ 3 ∷ []) ∷ (4 ∷ 5 ∷ 6 ∷ []) ∷ (7 ∷ []) ∷ []) ∷ ((1 ∷ 2 ∷ 3 ∷ []) ∷ []) ∷ [] ∷ []
unfolding pieces
cut = refl

-- a bad record is numbered in its input: the sixth of the third block is 2053
numbered : bad_record 2 (Err (batch.Bad 5 (record_fault.ProcVersion 9))) ∷ bad_record 2 (Err (batch.Memory)) ∷ [] ≡ Some (Bad 2053 (record_fault.ProcVersion 9)) ∷ None ∷ []
numbered = refl

-- a block with a rest is torn, and names the records and bytes of the whole input
torn : block_fault 1024 Proc 130 (0, replicate 65 2) ∷ block_fault 1024 Login 65921 (0, replicate 3 7) ∷ [] ≡ Some (Torn 2 2) ∷ Some (Torn 171 257) ∷ []
torn = refl

-- the block after the last is too long, whatever it has
too_long : block_fault 1024 Proc 67108865 (1024, 2 ∷ []) ∷ block_fault 1024 Login 402653184 (1024, []) ∷ [] ≡ Some (TooLong 1048576) ∷ Some (TooLong 1048576) ∷ []
too_long = refl

-- of an input of at most one block the second is too long, and of at most two it is torn
limited : block_fault 1 Proc 65537 (1, 2 ∷ []) ∷ block_fault 2 Proc 65537 (1, 2 ∷ []) ∷ [] ≡ Some (TooLong 1024) ∷ Some (Torn 1024 1) ∷ []
limited = refl

-- failed logins are stored as login records: one of type 6, and of a boot and of a logout none
abbrev of_type : ℕ → List ℕ
of_type kind = kind ∷ replicate 383 0

kinds : map stored_kind (Login ∷ FailedLogin ∷ Proc ∷ []) ≡ Login ∷ Login ∷ Proc ∷ []
kinds = refl

failed : map (λ (r : LoginRecord). r.kind) (logins_in (records_in FailedLogin (of_type 2 ++ of_type 6 ++ of_type 8))) ≡ 6 ∷ []
unfolding records_in i16_at i32_at u32_at u16_at text_of
failed = refl

-- a block of failed logins with a boot is bad, where it is one of logins it is good
boots : block_fault 1024 FailedLogin 768 (0, of_type 6 ++ of_type 2) ∷ block_fault 1024 Login 768 (0, of_type 6 ++ of_type 2) ∷ [] ≡ Some (Bad 1 (record_fault.OtherLogin 2)) ∷ None ∷ []
unfolding i16_at i32_at u32_at u16_at text_of
boots = refl

-- and so it is before a torn end, where logins with a type that is none are torn; failed logins alone are torn too
before_end : block_fault 1024 FailedLogin 769 (0, of_type 6 ++ of_type 2 ++ 7 ∷ []) ∷ block_fault 1024 Login 769 (0, of_type 6 ++ of_type 10 ++ 7 ∷ []) ∷ block_fault 1024 FailedLogin 769 (0, of_type 6 ++ of_type 7 ++ 7 ∷ []) ∷ []
    ≡ Some (Bad 1 (record_fault.OtherLogin 2)) ∷ Some (Torn 2 1) ∷ Some (Torn 2 1) ∷ []
unfolding i16_at i32_at u32_at u16_at text_of
before_end = refl
