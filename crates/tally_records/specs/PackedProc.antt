-- The process record that packed fields stand for.
use Rattle.std.specs.Prelude.{ℕ, ◌%◌, List, map}
use Rattle.tally_records.specs.declared.process.packed.PackedProc.{PackedProc}
use Rattle.tally_records.specs.declared.process.packed.Version.{Version}
use Rattle.tally_records.specs.declared.process.packed.Version.TheVariants.{Two, Three}
use Rattle.tally_records.specs.declared.process.ProcRecord.{ProcRecord}
use Rattle.tally_records.specs.Compressed.{comp_of}
use Rattle.tally_records.specs.Elapsed.{elapsed_of}

-- the ticks of an elapsed time, which is a comp_t in version 2 and a float in version 3
abbrev pub elapsed_ticks : Version → ℕ → ℕ
elapsed_ticks Two word = comp_of (word % 65536)
elapsed_ticks Three word = elapsed_of word

-- the record with each number worked out
abbrev pub record_of : PackedProc → ProcRecord
record_of p = record {
  flag = p.flag;
  uid = p.uid;
  begin = p.begin;
  user_ticks = comp_of p.user_ticks;
  system_ticks = comp_of p.system_ticks;
  real_ticks = elapsed_ticks p.version p.elapsed;
  mem = comp_of p.mem;
  io = comp_of p.io;
  comm = p.comm;
}

-- the records of a list
abbrev pub unpacked : List PackedProc → List ProcRecord
unpacked ps = map record_of ps
