-- Records of logins and processes, and what tells them from other bytes: their types or versions, and texts with
-- nothing but zeros after their ends (utmp(5), acct(5), lastlog(8)).
use Rattle.std.specs.Prelude.{ℕ, Bool, List, length, take, drop, slice_index, nat_le, not, ◌==◌, ◌&&◌, ◌||◌, ◌/◌, ◌%◌}
use Rattle.std.specs.List.{list_all, list_any}
use Rattle.std.specs.Simd.{first_chunks}
use Rattle.tally_kinds.specs.Texts.{are_zeros, is_padded}

-- the whole records of so many bytes that a front has
abbrev pub records : ℕ → List ℕ → List (List ℕ)
records n front = first_chunks n (length front / n) front

-- a file of whole records, one at least, and not of zeros alone: those are what any kind of record has before it is written
abbrev pub is_whole : ℕ → List ℕ → ℕ → Bool
is_whole n front size = (size % n == 0) && (nat_le n (length front) && not (are_zeros front))

-- a file of records that are all of a kind, as far as its front shows
abbrev pub has_all : ℕ → (List ℕ → Bool) → List ℕ → ℕ → Bool
has_all n is_record front size = is_whole n front size && list_all is_record (records n front)

-- the field of so many bytes at an offset
abbrev pub field_at : ℕ → ℕ → List ℕ → List ℕ
field_at offset n bytes = take n (drop offset bytes)

-- it holds a text
abbrev pub has_text : ℕ → ℕ → List ℕ → Bool
has_text offset n bytes = is_padded (field_at offset n bytes)

-- a type of utmp(5), 0 to 9, as its low and its high byte
abbrev pub is_type : ℕ → ℕ → Bool
is_type low high = nat_le low 9 && (high == 0)

-- ut_line, ut_user and ut_host, which stand at the same places on all machines
abbrev pub has_login_texts : List ℕ → Bool
has_login_texts bytes = has_text 8 32 bytes && (has_text 44 32 bytes && has_text 76 256 bytes)

-- a login record
abbrev pub is_login : List ℕ → Bool
is_login bytes = is_type (slice_index bytes 0) (slice_index bytes 1) && has_login_texts bytes

-- that of a big-endian machine
abbrev pub is_big_endian_login : List ℕ → Bool
is_big_endian_login bytes = is_type (slice_index bytes 1) (slice_index bytes 0) && has_login_texts bytes

-- a login record of no type but those of a login that failed, LOGIN_PROCESS and USER_PROCESS, or none
abbrev pub is_failed_login : List ℕ → Bool
is_failed_login bytes =
    is_login bytes && ((slice_index bytes 0 == 0) || ((slice_index bytes 0 == 6) || (slice_index bytes 0 == 7)))

-- a record has a type
abbrev pub has_type : List ℕ → Bool
has_type bytes = not (slice_index bytes 0 == 0)

-- a file of failed logins
abbrev pub has_failed_logins : List ℕ → ℕ → Bool
has_failed_logins front size = has_all 384 is_failed_login front size && list_any has_type (records 384 front)

-- a file of login records with times of 64 bits, as 64-bit ARM (little-endian) and s390x (big-endian) have them
abbrev pub has_long_logins : List ℕ → ℕ → Bool
has_long_logins front size = has_all 400 is_login front size || has_all 400 is_big_endian_login front size

-- a process record of version 2 or 3, whose bytes of version are these: ac_comm stands elsewhere in each
abbrev pub is_proc : ℕ → ℕ → List ℕ → Bool
is_proc two three bytes =
    ((slice_index bytes 1 == two) && has_text 36 17 bytes) || ((slice_index bytes 1 == three) && has_text 48 16 bytes)

-- an entry of lastlog: ll_line and ll_host, each with a zero after it
abbrev pub is_last_login : List ℕ → Bool
is_last_login bytes =
    (has_text 4 32 bytes && (slice_index bytes 35 == 0)) && (has_text 36 256 bytes && (slice_index bytes 291 == 0))
