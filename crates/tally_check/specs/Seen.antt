-- What is seen of a record at first: zeros alone, a type that is none, or its type and its time.
use Rattle.std.specs.Prelude.{ℕ, pos, Bool, true, false, List, Option, Some, None, nat_eq, nat_lt, ◌==◌, if◌then◌else◌}
use Rattle.std.specs.List.{list_all}
use Rattle.tally_check.specs.declared.seen.Seen.{Seen}
use Rattle.tally_check.specs.declared.seen.Seen.TheVariants.{Zeros, Unknown, Known}
use Rattle.tally_records.specs.LoginRecord.{login_of}
use Rattle.tally_records.specs.ProcRecord.{proc_of, version_of}
use Rattle.tally_records.specs.declared.login.LoginRecord.{LoginRecord}
use Rattle.tally_records.specs.declared.process.ProcRecord.{ProcRecord}

-- zeros alone
abbrev pub are_zeros : List ℕ → Bool
are_zeros bytes = list_all (λ b. b == 0) bytes

-- a login record by its type and its time, or that there is none
abbrev pub known_login : Option LoginRecord → Seen
known_login None = Unknown
known_login (Some r) = Known r.kind r.time

-- what is seen of the bytes of a login record
abbrev pub seen_login : List ℕ → Seen
seen_login bytes = if are_zeros bytes then Zeros else known_login (login_of bytes)

-- a process record of a version by this and when it began, or that there is none
abbrev pub known_proc : ℕ → Option ProcRecord → Seen
known_proc version None = Unknown
known_proc version (Some r) = Known version (pos r.begin)

-- what is seen of the bytes of a process record
abbrev pub seen_proc : List ℕ → Seen
seen_proc bytes = if are_zeros bytes then Zeros else known_proc (version_of bytes) (proc_of bytes)

abbrev pub is_zeros : Seen → Bool
is_zeros Zeros = true
is_zeros _ = false

abbrev pub is_unknown : Seen → Bool
is_unknown Unknown = true
is_unknown _ = false

-- a record of this type or version
abbrev pub is_of_kind : ℕ → Seen → Bool
is_of_kind kind (Known own time) = nat_eq own kind
is_of_kind kind _ = false

-- a record of a type or version other than 0
abbrev pub is_typed : Seen → Bool
is_typed (Known own time) = nat_lt 0 own
is_typed _ = false
