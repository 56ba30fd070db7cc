-- The process record that 64 bytes of an accounting file stand for (linux/acct.h, versions 2 and 3).
use Rattle.std.specs.Prelude.{ℕ, ◌<◌, ◌^◌, List, take, drop, Option, Some, None, Result, ok_or, slice_index, ◌==◌, if◌then◌else◌}
use Rattle.tally_records.specs.declared.fault.RecordFault.{RecordFault}
use Rattle.tally_records.specs.declared.fault.RecordFault.TheVariants.{ProcVersion}
use Rattle.tally_records.specs.declared.process.ProcRecord.{ProcRecord}
use Rattle.tally_records.specs.Compressed.{comp_of}
use Rattle.tally_records.specs.Elapsed.{elapsed_of}
use Rattle.tally_records.specs.Text.{text_of, u16_at, u32_at}

-- where a version has its fields, as offsets in bytes, and how many bytes the command's name has
pub record Layout : Type 0 where
  pub uid : ℕ
  pub begin : ℕ
  pub user_ticks : ℕ
  pub system_ticks : ℕ
  pub real_ticks : ℕ
  pub mem : ℕ
  pub io : ℕ
  pub comm : ℕ
  pub comm_size : ℕ

-- struct acct, version 2
abbrev pub version_2 : Layout
version_2 = record { uid = 56; begin = 8; user_ticks = 12; system_ticks = 14; real_ticks = 16; mem = 18; io = 20; comm = 36; comm_size = 17 }

-- struct acct_v3, version 3
abbrev pub version_3 : Layout
version_3 = record { uid = 8; begin = 24; user_ticks = 32; system_ticks = 34; real_ticks = 28; mem = 36; io = 38; comm = 48; comm_size = 16 }

-- what the fields hold, beside the elapsed time
abbrev pub proc_fields : Layout → ℕ → List ℕ → ProcRecord
proc_fields at real_ticks bytes = record {
  flag = slice_index bytes 0;
  uid = u32_at at.uid bytes;
  begin = u32_at at.begin bytes;
  user_ticks = comp_of (u16_at at.user_ticks bytes);
  system_ticks = comp_of (u16_at at.system_ticks bytes);
  real_ticks = real_ticks;
  mem = comp_of (u16_at at.mem bytes);
  io = comp_of (u16_at at.io bytes);
  comm = text_of 17 (take at.comm_size (drop at.comm bytes));
}

-- the elapsed time is a comp_t in version 2, and a float in version 3
abbrev pub fields_2 : List ℕ → ProcRecord
fields_2 bytes = proc_fields version_2 (comp_of (u16_at version_2.real_ticks bytes)) bytes

abbrev pub fields_3 : List ℕ → ProcRecord
fields_3 bytes = proc_fields version_3 (elapsed_of (u32_at version_3.real_ticks bytes)) bytes

-- the version that the bytes name
abbrev pub version_of : List ℕ → ℕ
version_of bytes = slice_index bytes 1

-- the record of the bytes, where their version is 2 or 3
abbrev pub proc_of : List ℕ → Option ProcRecord
proc_of bytes =
    if version_of bytes == 2 then Some (fields_2 bytes) else (if version_of bytes == 3 then Some (fields_3 bytes) else None)

-- the record, or the version that is none
abbrev pub proc_result : List ℕ → Result ProcRecord RecordFault
proc_result bytes = ok_or (proc_of bytes) (ProcVersion (version_of bytes))

-- the numbers are within what the layouts can hold
pub record IsBounded (r : ProcRecord) : Type 0 where
  pub user_ticks : r.user_ticks < 2 ^ 34
  pub system_ticks : r.system_ticks < 2 ^ 34
  pub real_ticks : r.real_ticks < 2 ^ 64
  pub mem : r.mem < 2 ^ 34
  pub io : r.io < 2 ^ 34
