-- The kind of a file, which may be damaged: its front shows what it may be, and its records or its size decide.
use Rattle.std.specs.Prelude.{◌≡◌, ◌<◌, ◌^◌, ℕ, Bool, true, false, List, Option, IfSome, ⊤, count_by, length, map, nat_lt, take, if◌then◌else◌}
use Rattle.tally_check.specs.Seen.{is_typed, is_unknown, seen_login, seen_proc}
use Rattle.tally_check.specs.declared.fault.CheckFault.{CheckFault}
use Rattle.tally_check.specs.declared.fault.CheckFault.TheVariants.{Memory, Read, TooManyBytes, TooManyRecords}
use Rattle.tally_check.specs.declared.kind.FileKind.{FileKind}
use Rattle.tally_check.specs.declared.kind.FileKind.TheVariants as kind
use Rattle.tally_check.specs.declared.kind.Guess.{Guess}
use Rattle.tally_check.specs.declared.kind.Guess.TheVariants as guess
use Rattle.tally_check.specs.declared.seen.Seen.{Seen}
use Rattle.tally_kinds.specs.Kinds.{looks_of}
use Rattle.tally_kinds.specs.Records.{records}
use Rattle.tally_kinds.specs.declared.kinds.Looks.{Looks}
use Rattle.tally_kinds.specs.declared.kinds.Looks.TheVariants as looks
use Rattle.tally_kinds.specs.declared.kinds.TheConstants.{FRONT_SIZE}

-- what is seen of each whole record
abbrev pub logins_seen : List ℕ → List Seen
logins_seen bytes = map seen_login (records 384 bytes)

abbrev pub procs_seen : List ℕ → List Seen
procs_seen bytes = map seen_proc (records 64 bytes)

-- more of the records have a type, other than 0, than have none
abbrev pub is_mostly_typed : List Seen → Bool
is_mostly_typed seen = nat_lt (count_by is_unknown seen) (count_by is_typed seen)

-- the kind that most of a damaged file's records have
abbrev pub damaged_kind : List ℕ → FileKind
damaged_kind bytes =
    if is_mostly_typed (logins_seen bytes) then kind.Logins else (
    if is_mostly_typed (procs_seen bytes) then kind.Processes else kind.Other looks.Unknown)

-- what a file may be whose front looks so, whatever its size
abbrev pub guess_by : Looks → Guess
guess_by looks.FailedLogins = guess.Logins
guess_by looks.Logins = guess.Logins
guess_by looks.Processes = guess.Processes
guess_by looks.Unknown = guess.Damaged
guess_by other = guess.Other other

abbrev pub guess_of : List ℕ → Guess
guess_of front = guess_by (looks_of front 0)

-- a file that begins as login records do has them, unless its size is that of longer records
abbrev pub login_kind : Looks → FileKind
login_kind looks.Logins400 = kind.Other looks.Logins400
login_kind other = kind.Logins

-- the kind of a file of which this was guessed
abbrev pub kind_by : Guess → List ℕ → FileKind
kind_by guess.Logins bytes = login_kind (looks_of (take FRONT_SIZE bytes) (length bytes))
kind_by guess.Processes bytes = kind.Processes
kind_by guess.Damaged bytes = damaged_kind bytes
kind_by (guess.Other other) bytes = kind.Other other

-- the kind of a file
abbrev pub kind_of : List ℕ → FileKind
kind_of bytes = kind_by (guess_of (take FRONT_SIZE bytes)) bytes

-- ---- what is counted of a file of which this was guessed

-- it may have login records
abbrev pub has_logins : Guess → Bool
has_logins guess.Logins = true
has_logins guess.Damaged = true
has_logins other = false

-- it may have process records
abbrev pub has_procs : Guess → Bool
has_procs guess.Processes = true
has_procs guess.Damaged = true
has_procs other = false

-- the most bytes that are read of it: of login records 1,048,576, of process records 268,435,456
abbrev pub most_bytes : Guess → ℕ
most_bytes guess.Logins = 402653184
most_bytes guess.Processes = 17179869184
most_bytes guess.Damaged = 402653184
most_bytes (guess.Other other) = 2 ^ 62

-- why one with more bytes is not checked
abbrev pub too_many : Guess → CheckFault
too_many guess.Logins = TooManyRecords 1048576
too_many guess.Processes = TooManyRecords 268435456
too_many guess.Damaged = TooManyBytes 402653184
too_many (guess.Other other) = TooManyBytes (2 ^ 62)

-- the most bytes that are read of a file, and the fault of one with more
abbrev pub most_of : List ℕ → ℕ
most_of bytes = most_bytes (guess_of (take FRONT_SIZE bytes))

abbrev pub too_many_of : List ℕ → CheckFault
too_many_of bytes = too_many (guess_of (take FRONT_SIZE bytes))

-- memory ran out or a read failed, or a file of these bytes, where they are known, has too many
abbrev pub IsCheckFault : Option (List ℕ) → CheckFault → Type 0
IsCheckFault known Memory = ⊤
IsCheckFault known Read = ⊤
IsCheckFault known fault = IfSome known (λ bytes. (fault ≡ too_many_of bytes) × (most_of bytes < length bytes))
