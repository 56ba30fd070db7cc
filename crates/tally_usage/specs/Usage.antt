-- What a list of process records used: its count and its sums.
use Rattle.std.specs.Prelude.{ℕ, ◌+◌, ◌*◌, List, length, sum_by}
use Rattle.tally_records.specs.declared.process.ProcRecord.{ProcRecord}
use Rattle.tally_usage.specs.declared.usage.Usage.{Usage}

-- the cpu ticks of a record
abbrev pub cpu_of : ProcRecord → ℕ
cpu_of r = r.user_ticks + r.system_ticks

-- the usage of a list of records
unfoldable pub usage_of : List ProcRecord → Usage
usage_of rs = record {
  count = length rs;
  real = sum_by (λ r. r.real_ticks) rs;
  cpu = sum_by cpu_of rs;
  io = sum_by (λ r. r.io) rs;
  mem_cpu = sum_by (λ r. r.mem * cpu_of r) rs;
}

abbrev pub no_usage : Usage
no_usage = record { count = 0; real = 0; cpu = 0; io = 0; mem_cpu = 0 }

-- two usages together
abbrev pub plus : Usage → Usage → Usage
plus u v = record {
  count = u.count + v.count;
  real = u.real + v.real;
  cpu = u.cpu + v.cpu;
  io = u.io + v.io;
  mem_cpu = u.mem_cpu + v.mem_cpu;
}
