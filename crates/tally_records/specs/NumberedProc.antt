-- The packed record that numbered fields stand for.
use Rattle.std.specs.Prelude.{ℕ, ◌+◌, ◌*◌, ◌/◌, ◌%◌, ◌==◌, Bool, List, if◌then◌else◌}
use Rattle.tally_records.specs.declared.process.numbered.NumberedProc.{NumberedProc}
use Rattle.tally_records.specs.declared.process.packed.PackedProc.{PackedProc}
use Rattle.tally_records.specs.declared.process.packed.Version.{Version}
use Rattle.tally_records.specs.declared.process.packed.Version.TheVariants.{Two, Three}

-- the number that stands in place of the command
abbrev pub number_of : NumberedProc → ℕ
number_of p = p.rest / 256

-- the version of a bit
abbrev pub version_in : ℕ → Version
version_in bit = if bit == 0 then Two else Three

-- the record with this command: its name, and whether the lowest bit of its flag is set
abbrev pub named : List ℕ → Bool → NumberedProc → PackedProc
named comm forked p = record {
  uid = p.uid;
  begin = p.begin;
  elapsed = p.elapsed;
  user_ticks = p.user_ticks;
  system_ticks = p.system_ticks;
  mem = p.mem;
  io = p.io;
  version = version_in (p.rest / 128 % 2);
  flag = p.rest % 128 * 2 + (if forked then 1 else 0);
  comm = comm;
}
