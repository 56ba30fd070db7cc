-- Worked contents of batches, and answers of a call that makes one.
use Rattle.std.proofs.Common.{◌≡◌, [], ◌∷◌, ◌<◌, map, replicate, ℕ, Ok, Err, Some, None, pos, refl, inl}
use Rattle.tally_records.specs.Decoding.{IsRead}
use Rattle.tally_records.specs.declared.fault.BatchFault.TheVariants.{Memory, Length, TooMany, Bad}
use Rattle.tally_records.specs.declared.fault.RecordFault.TheVariants.{LoginType, ProcVersion}
use Rattle.tally_records.specs.declared.login.LoginRecord.{LoginRecord}
use Rattle.tally_records.specs.declared.process.ProcRecord.{ProcRecord}
use Rattle.tally_records.specs.Records.{IsAnswer, IsLogins, IsProcs, Logins, NamesRecordBelow, Procs, Records, login_at, logins_in, proc_at, procs_in}

abbrev login : ℕ → LoginRecord
login time = record { kind = 7; line = replicate 32 97; user = replicate 32 98; remote = replicate 256 0; time = pos time }

abbrev process : ℕ → ProcRecord
process uid = record { flag = 0; uid = uid; begin = 0; user_ticks = 120; system_ticks = 60; real_ticks = 600; mem = 500; io = 1000; comm = replicate 17 97 }

abbrev two_logins : Records
two_logins = Logins (login 100 ∷ login 200 ∷ [])

abbrev two_procs : Records
two_procs = Procs (process 1000 ∷ process 1001 ∷ [])

-- a batch is of one kind, also where it is empty
of_kind : IsLogins (Logins []) × IsLogins two_logins × IsProcs (Procs []) × IsProcs two_procs
of_kind = (refl, refl, refl, refl)

-- it has the records of its kind, in order, and none of the other
logins_held : map logins_in (two_logins ∷ two_procs ∷ []) ≡ (login 100 ∷ login 200 ∷ []) ∷ [] ∷ []
logins_held = refl

procs_held : map procs_in (two_logins ∷ two_procs ∷ []) ≡ [] ∷ (process 1000 ∷ process 1001 ∷ []) ∷ []
procs_held = refl

-- places count from 0, and past the last there is none
logins_by_place : map (login_at two_logins) (0 ∷ 1 ∷ 2 ∷ []) ≡ Some (login 100) ∷ Some (login 200) ∷ None ∷ []
logins_by_place = refl

procs_by_place : map (proc_at two_procs) (0 ∷ 1 ∷ 2 ∷ []) ≡ Some (process 1000) ∷ Some (process 1001) ∷ None ∷ []
procs_by_place = refl

-- nor is there one of the other kind at any place
of_other_kind : (login_at two_procs 0 ≡ None) × (proc_at two_logins 0 ≡ None)
of_other_kind = (refl, refl)

-- want of memory may come in place of a batch or of a bad record
memory_for_batch : IsAnswer (Err Memory) (Ok two_logins) ≡ Unit {0}
memory_for_batch = refl

memory_for_bad : IsAnswer (Err Memory) (Err (Bad 2 (LoginType (pos 10)))) ≡ Unit {0}
memory_for_bad = refl

-- a wrong length and too many records are named before it
memory_for_length : IsAnswer (Err Memory) (Err (Length 385)) ≡ ⊥
memory_for_length = refl

memory_for_many : IsAnswer (Err Memory) (Err (TooMany 1025)) ≡ ⊥
memory_for_many = refl

-- any other answer is the outcome itself
own_batch : IsAnswer (Ok two_procs) (Err (Bad 2 (ProcVersion 9))) ≡ (Err (Bad 2 (ProcVersion 9)) ≡ Ok two_procs)
own_batch = refl

own_length : IsAnswer (Err (Length 385)) (Ok two_logins) ≡ (Ok two_logins ≡ Err (Length 385))
own_length = refl

own_number : IsAnswer (Err (TooMany 1025)) (Ok two_logins) ≡ (Ok two_logins ≡ Err (TooMany 1025))
own_number = refl

own_record : IsAnswer (Err (Bad 2 (ProcVersion 9))) (Ok two_procs) ≡ (Ok two_procs ≡ Err (Bad 2 (ProcVersion 9)))
own_record = refl

-- the same of a call that decodes whole records
memory_for_records : IsRead (Err (Bad 2 (LoginType (pos 10)))) (Err Memory)
memory_for_records = inl refl

own_records : IsRead (Err (Bad 2 (LoginType (pos 10)))) (Ok (login 100 ∷ [])) ≡ (Err (Bad 2 (LoginType (pos 10))) ≡ Ok (login 100 ∷ []))
own_records = refl

-- the place of a bad record, counted from 0, is below the number of records
bad_places : NamesRecordBelow 2 (Bad 1 (ProcVersion 9)) ≡ (1 < 2)
bad_places = refl
