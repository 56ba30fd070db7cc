-- The login record that 384 bytes of a wtmp file stand for (utmp(5), Linux on x86-64).
use Rattle.std.specs.Prelude.{ℕ, List, Option, Some, None, Result, ok_or, ℤ, pos, Bool, ◌&&◌, int_le, unsigned_abs, if◌then◌else◌}
use Rattle.tally_records.specs.declared.login.LoginRecord.{LoginRecord}
use Rattle.tally_records.specs.declared.fault.RecordFault.{RecordFault}
use Rattle.tally_records.specs.declared.fault.RecordFault.TheVariants.{LoginType}
use Rattle.tally_records.specs.Text.{text_at, i16_at, i32_at}

-- the type of a record
abbrev pub login_type : List ℕ → ℤ
login_type bytes = i16_at 0 bytes

-- the types of records are 0 to 9
abbrev pub is_login_type : ℤ → Bool
is_login_type z = int_le (pos 0) z && int_le z (pos 9)

-- what the fields hold
abbrev pub login_fields : List ℕ → LoginRecord
login_fields bytes = record {
  kind = unsigned_abs (login_type bytes);
  line = text_at 8 32 bytes;
  user = text_at 44 32 bytes;
  remote = text_at 76 256 bytes;
  time = i32_at 340 bytes;
}

-- the record of the bytes, where their type is that of a record
abbrev pub login_of : List ℕ → Option LoginRecord
login_of bytes = if is_login_type (login_type bytes) then Some (login_fields bytes) else None

-- the record, or the type that is none
abbrev pub login_result : List ℕ → Result LoginRecord RecordFault
login_result bytes = ok_or (login_of bytes) (LoginType (login_type bytes))
