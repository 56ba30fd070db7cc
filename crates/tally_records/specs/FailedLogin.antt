-- The records of a btmp file, which has failed logins as lastb(8) reads them: login records of three types alone.
use Rattle.std.specs.Prelude.{ℕ, List, Bool, ◌||◌, ◌==◌, if◌then◌else◌, Option, Result, Ok, Err}
use Rattle.std.specs.Result.{result_ok}
use Rattle.tally_records.specs.declared.login.LoginRecord.{LoginRecord}
use Rattle.tally_records.specs.declared.fault.RecordFault.{RecordFault}
use Rattle.tally_records.specs.declared.fault.RecordFault.TheVariants.{OtherLogin}
use Rattle.tally_records.specs.LoginRecord.{login_result}

-- a type that records of btmp files have: EMPTY, LOGIN_PROCESS and USER_PROCESS of utmp(5)
abbrev pub is_failed_type : ℕ → Bool
is_failed_type kind = (kind == 0) || (kind == 6) || (kind == 7)

-- a login record, where its type is one of these
abbrev pub if_failed : Result LoginRecord RecordFault → Result LoginRecord RecordFault
if_failed (Ok r) = if is_failed_type r.kind then Ok r else Err (OtherLogin r.kind)
if_failed (Err fault) = Err fault

-- the record, or the type that is none or that no failed login has
abbrev pub failed_result : List ℕ → Result LoginRecord RecordFault
failed_result bytes = if_failed (login_result bytes)

-- the record of the bytes, where they are one of a failed login
abbrev pub failed_of : List ℕ → Option LoginRecord
failed_of bytes = result_ok (failed_result bytes)
