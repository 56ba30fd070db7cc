-- Worked records and batches, computed by the definitions.
use Rattle.std.proofs.Common.{◌≡◌, ℕ, List, [], ◌∷◌, ◌++◌, map, replicate, Ok, Err, Some, None, pos, negsuc, refl}
use Rattle.std.specs.Ordering.{nat_cmp}
use Rattle.std.specs.Prelude.{codes}
use Rattle.tally_records.specs.declared.batch.Kind.TheVariants.{Login, Proc}
use Rattle.tally_records.specs.declared.batch.TheConstants.{BATCH_LIMIT}
use Rattle.tally_records.specs.declared.fault.BatchFault.TheVariants.{Length, TooMany, Bad}
use Rattle.tally_records.specs.declared.fault.RecordFault.TheVariants.{LoginType, OtherLogin, ProcVersion}
use Rattle.tally_records.specs.declared.login.LoginRecord.{LoginRecord}
use Rattle.tally_records.specs.declared.process.ProcRecord.{ProcRecord}
use Rattle.tally_records.specs.declared.process.packed.Version.TheVariants.{Two, Three}
use Rattle.tally_records.specs.Elapsed.{elapsed_of, rounded_down}
use Rattle.tally_records.specs.FailedLogin.{failed_of, failed_result}
use Rattle.tally_records.specs.LoginRecord.{login_of, login_result}
use Rattle.tally_records.specs.PackedProc.{elapsed_ticks}
use Rattle.tally_records.specs.ProcRecord.{proc_result}
use Rattle.tally_records.specs.Records.{Logins, Procs, failed_logins_of, kind_of, logins_of, procs_of, record_count}
use Rattle.tally_records.specs.Sorted.{in_order, insert_in_order}
use Rattle.tally_records.specs.Text.{i16_at, i32_at, padded, text_of, u16_at, u32_at}

-- what no field holds
abbrev other : ℕ → List ℕ
other n = replicate n 170

abbrev line_of_32 : List ℕ
line_of_32 = codes "line-that-fills-its-whole-field."

abbrev user_of_32 : List ℕ
user_of_32 = codes "abcdefghijklmnopqrstuvwxyz012345"

-- a login record of these two bytes of type and four bytes of time
abbrev login_bytes : List ℕ → List ℕ → List ℕ
login_bytes kind time =
    kind ++ other 6 ++ line_of_32 ++ other 4 ++ user_of_32 ++ codes "far.example" ++ 0 ∷ [] ++ other 244 ++ other 8 ++ time ++ other 40

abbrev login_record : LoginRecord
login_record = record { kind = 7; line = line_of_32; user = user_of_32; remote = padded 256 (codes "far.example"); time = pos 1000000 }

-- the fields of a login record stand where utmp(5) has them, and a text may fill its field
login_fields : login_of (login_bytes (7 ∷ 0 ∷ []) (64 ∷ 66 ∷ 15 ∷ 0 ∷ [])) ≡ Some login_record
unfolding i16_at i32_at u32_at u16_at text_of
login_fields = refl

-- a time before 1970 is negative
early_login : login_of (login_bytes (7 ∷ 0 ∷ []) (255 ∷ 255 ∷ 255 ∷ 255 ∷ [])) ≡ Some (record { kind = 7; line = line_of_32; user = user_of_32; remote = padded 256 (codes "far.example"); time = negsuc 0 })
unfolding i16_at i32_at u32_at u16_at text_of
early_login = refl

-- the lowest byte of a number comes first, and its highest bit is the sign where it has one
numbers_at : u16_at 1 (9 ∷ 1 ∷ 2 ∷ []) ∷ u32_at 1 (9 ∷ 1 ∷ 2 ∷ 3 ∷ 4 ∷ []) ∷ u32_at 0 (255 ∷ 255 ∷ 255 ∷ 255 ∷ []) ∷ [] ≡ 513 ∷ 67305985 ∷ 4294967295 ∷ []
unfolding u32_at u16_at
numbers_at = refl

signed_numbers : i16_at 0 (255 ∷ 127 ∷ []) ∷ i16_at 1 (9 ∷ 0 ∷ 128 ∷ []) ∷ i32_at 0 (255 ∷ 255 ∷ 255 ∷ 127 ∷ []) ∷ i32_at 1 (9 ∷ 0 ∷ 0 ∷ 0 ∷ 128 ∷ []) ∷ [] ≡ pos 32767 ∷ negsuc 32767 ∷ pos 2147483647 ∷ negsuc 2147483647 ∷ []
unfolding i16_at i32_at u32_at u16_at
signed_numbers = refl

-- types go from 0 to 9: 10, 263 and -1 are none
login_types : map login_result ((10 ∷ 0 ∷ replicate 382 0) ∷ (7 ∷ 1 ∷ replicate 382 0) ∷ (255 ∷ 255 ∷ replicate 382 0) ∷ []) ≡ Err (LoginType (pos 10)) ∷ Err (LoginType (pos 263)) ∷ Err (LoginType (negsuc 0)) ∷ []
unfolding i16_at i32_at u32_at u16_at text_of
login_types = refl

abbrev empty_login : ℕ → LoginRecord
empty_login kind = record { kind = kind; line = replicate 32 0; user = replicate 32 0; remote = replicate 256 0; time = pos 0 }

-- the least type and the greatest
least_and_greatest : map login_of (replicate 384 0 ∷ (9 ∷ replicate 383 0) ∷ []) ≡ Some (empty_login 0) ∷ Some (empty_login 9) ∷ []
unfolding i16_at i32_at u32_at u16_at text_of
least_and_greatest = refl

abbrev of_type : ℕ → List ℕ
of_type kind = kind ∷ replicate 383 0

-- a file of failed logins has types 0, 6 and 7 alone, and a type that is none is named as such
failed_types : map failed_result (map of_type (0 ∷ 6 ∷ 7 ∷ 2 ∷ 8 ∷ 10 ∷ []))
    ≡ Ok (empty_login 0) ∷ Ok (empty_login 6) ∷ Ok (empty_login 7) ∷ Err (OtherLogin 2) ∷ Err (OtherLogin 8) ∷ Err (LoginType (pos 10)) ∷ []
unfolding i16_at i32_at u32_at u16_at text_of
failed_types = refl

-- its records are login records, and the first that is no failed login is named: of a boot after a failed login, the boot
failed_files : failed_logins_of (of_type 6) ∷ failed_logins_of (of_type 6 ++ of_type 2 ++ of_type 8) ∷ failed_logins_of (replicate 385 6) ∷ failed_logins_of [] ∷ []
    ≡ Ok (Logins (empty_login 6 ∷ [])) ∷ Err (Bad 1 (OtherLogin 2)) ∷ Err (Length 385) ∷ Ok (Logins []) ∷ []
unfolding i16_at i32_at u32_at u16_at text_of
failed_files = refl

-- without its fault, one that is no failed login is none
failed_records : map failed_of (of_type 7 ∷ of_type 8 ∷ of_type 10 ∷ []) ≡ Some (empty_login 7) ∷ None ∷ None ∷ []
unfolding i16_at i32_at u32_at u16_at text_of
failed_records = refl

-- versions other than 2 and 3 are none, nor is that of a machine with the other order of bytes
versions : map (λ version. proc_result (0 ∷ version ∷ replicate 62 0)) (0 ∷ 1 ∷ 4 ∷ 130 ∷ 131 ∷ []) ≡ Err (ProcVersion 0) ∷ Err (ProcVersion 1) ∷ Err (ProcVersion 4) ∷ Err (ProcVersion 130) ∷ Err (ProcVersion 131) ∷ []
unfolding elapsed_of rounded_down text_of u32_at u16_at
versions = refl

-- an elapsed time is a comp_t in version 2, and a float in version 3
elapsed_times : elapsed_ticks Two 8193 ∷ elapsed_ticks Three 1142292480 ∷ [] ≡ 8 ∷ 600 ∷ []
unfolding elapsed_of rounded_down
elapsed_times = refl

-- no bytes are no records, and a byte too many is no record
lengths : logins_of [] ∷ procs_of [] ∷ logins_of (replicate 385 0) ∷ procs_of (replicate 63 0) ∷ [] ≡ Ok (Logins []) ∷ Ok (Procs []) ∷ Err (Length 385) ∷ Err (Length 63) ∷ []
lengths = refl

-- the first bad record is named, counted from 0
third_is_bad : procs_of (0 ∷ 2 ∷ replicate 62 0 ++ 0 ∷ 3 ∷ replicate 62 0 ++ 0 ∷ 9 ∷ replicate 62 0 ++ replicate 64 0) ≡ Err (Bad 2 (ProcVersion 9))
unfolding elapsed_of rounded_down text_of u32_at u16_at
third_is_bad = refl

-- the bytes of a login and its logout an hour later
abbrev session_bytes : ℕ → List ℕ → List ℕ → List ℕ
session_bytes kind user time = kind ∷ replicate 7 0 ++ codes "tty1" ++ replicate 32 0 ++ padded 296 user ++ time ++ replicate 40 0

abbrev session : ℕ → List ℕ → ℕ → LoginRecord
session kind user time = record { kind = kind; line = padded 32 (codes "tty1"); user = padded 32 user; remote = replicate 256 0; time = pos time }

-- the login records of a file are in its order
hour : logins_of (session_bytes 7 (codes "ann") (64 ∷ 66 ∷ 15 ∷ 0 ∷ []) ++ session_bytes 8 [] (80 ∷ 80 ∷ 15 ∷ 0 ∷ [])) ≡ Ok (Logins (session 7 (codes "ann") 1000000 ∷ session 8 [] 1003600 ∷ []))
unfolding i16_at i32_at u32_at u16_at text_of
hour = refl

-- the bytes of a process of version 2: its flag and the five numbers
abbrev make_bytes : ℕ → List ℕ → List ℕ
make_bytes flag numbers = flag ∷ 2 ∷ replicate 10 0 ++ numbers ++ replicate 14 0 ++ codes "make" ++ replicate 16 0 ++ (232 ∷ 3 ∷ 0 ∷ 0 ∷ []) ++ replicate 4 0

abbrev make : ℕ → ℕ → ℕ → ℕ → ℕ → ℕ → ProcRecord
make flag user system real mem io = record { flag = flag; uid = 1000; begin = 0; user_ticks = user; system_ticks = system; real_ticks = real; mem = mem; io = io; comm = padded 17 (codes "make") }

-- the process records of a file are in its order
build : procs_of (make_bytes 0 (120 ∷ 0 ∷ 60 ∷ 0 ∷ 88 ∷ 2 ∷ 244 ∷ 1 ∷ 232 ∷ 3 ∷ []) ++ make_bytes 1 (60 ∷ 0 ∷ 0 ∷ 0 ∷ 60 ∷ 0 ∷ 200 ∷ 0 ∷ 3 ∷ 0 ∷ [])) ≡ Ok (Procs (make 0 120 60 600 500 1000 ∷ make 1 60 0 60 200 3 ∷ []))
unfolding elapsed_of rounded_down text_of u32_at u16_at
build = refl

-- a batch has up to 1,024 records
batch_limit : BATCH_LIMIT ≡ 1024
batch_limit = refl

-- one more is too many, whatever the records are, and their number is named
too_many : logins_of (replicate 393600 0) ∷ procs_of (replicate 65600 0) ∷ failed_logins_of (replicate 393600 0) ∷ [] ≡ Err (TooMany 1025) ∷ Err (TooMany 1025) ∷ Err (TooMany 1025) ∷ []
too_many = refl

-- with a byte more they are no whole records, however many
length_first : procs_of (replicate 65601 0) ≡ Err (Length 65601)
length_first = refl

-- 1,024 are not too many
most : procs_of (replicate 65536 0) ≡ Err (Bad 0 (ProcVersion 0))
unfolding elapsed_of rounded_down text_of u32_at u16_at
most = refl

-- records are of one kind, and counted
kinds : map kind_of (Logins (empty_login 0 ∷ []) ∷ Procs [] ∷ []) ≡ Login ∷ Proc ∷ []
kinds = refl

counts : map record_count (Logins (empty_login 0 ∷ empty_login 0 ∷ []) ∷ Procs [] ∷ []) ≡ 2 ∷ 0 ∷ []
counts = refl

-- items in ascending order, each once
ascending : in_order nat_cmp (3 ∷ 1 ∷ 2 ∷ 1 ∷ 3 ∷ []) ≡ 1 ∷ 2 ∷ 3 ∷ []
unfolding in_order insert_in_order
ascending = refl

-- an item that ties with one that stands there is left out
tie : insert_in_order {X = ℕ × ℕ} (λ a b. nat_cmp a.0 b.0) (1, 5) ((0, 6) ∷ (1, 7) ∷ (2, 8) ∷ []) ≡ (0, 6) ∷ (1, 7) ∷ (2, 8) ∷ []
unfolding insert_in_order
tie = refl
