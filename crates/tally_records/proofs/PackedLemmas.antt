-- That a packed record's numbers are within what its fields can hold.
use Rattle.std.proofs.Common.{ℕ, ◌<◌, ◌%◌, ◌^◌, arith}
use Rattle.tally_records.specs.declared.process.packed.PackedProc.{PackedProc}
use Rattle.tally_records.specs.declared.process.packed.Version.{Version}
use Rattle.tally_records.specs.declared.process.packed.Version.TheVariants.{Two, Three}
use Rattle.tally_records.specs.PackedProc.{elapsed_ticks, record_of}
use Rattle.tally_records.specs.ProcRecord.{IsBounded}
use Rattle.tally_records.proofs.CompressedLemmas.{comp_of-bounded}
use Rattle.tally_records.proofs.ElapsedLemmas.{elapsed_of-bounded}

elapsed_ticks-bounded : (v : Version) (word : ℕ) → elapsed_ticks v word < 2 ^ 64
elapsed_ticks-bounded Two word = omega (arith, comp_of-bounded (word % 65536) (omega arith))
elapsed_ticks-bounded Three word = elapsed_of-bounded word

pub packed_is_bounded : (p : PackedProc) → p.user_ticks < 65536 → p.system_ticks < 65536 → p.mem < 65536 → p.io < 65536 → IsBounded (record_of p)
packed_is_bounded p user system mem io = record {
  user_ticks = comp_of-bounded p.user_ticks user;
  system_ticks = comp_of-bounded p.system_ticks system;
  real_ticks = elapsed_ticks-bounded p.version p.elapsed;
  mem = comp_of-bounded p.mem mem;
  io = comp_of-bounded p.io io;
}
