-- Which usages a row can hold.
use Rattle.std.specs.Prelude.{◌<◌, ◌^◌}
use Rattle.tally_usage.specs.declared.usage.Usage.{Usage}

-- each number is within its type
pub record Fits (u : Usage) : Type 0 where
  pub count : u.count < 2 ^ 64
  pub real : u.real < 2 ^ 128
  pub cpu : u.cpu < 2 ^ 64
  pub io : u.io < 2 ^ 64
  pub mem_cpu : u.mem_cpu < 2 ^ 128
