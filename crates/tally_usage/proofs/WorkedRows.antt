-- Worked examples, computed by the definitions.
use Rattle.std.proofs.Common.{◌≡◌, ℕ, List, [], ◌∷◌, map, true, false, refl}
use Rattle.std.specs.Prelude.{codes}
use Rattle.tally_records.specs.declared.process.ProcRecord.{ProcRecord}
use Rattle.tally_records.specs.Sorted.{in_order, insert_in_order}
use Rattle.tally_records.specs.Text.{padded}
use Rattle.tally_usage.specs.declared.command.CommandRow.{CommandRow}
use Rattle.tally_usage.specs.declared.usage.Usage.{Usage}
use Rattle.tally_usage.specs.declared.order.Order.TheVariants.{Cpu, Calls}
use Rattle.tally_usage.specs.Command.{command_rows, is_printable}
use Rattle.tally_usage.specs.Laws.{together}
use Rattle.tally_usage.specs.Usage.{usage_of}
use Rattle.tally_usage.specs.User.{user_rows}

-- a process of a build: flag, user, cpu in user and system, elapsed, memory, io
abbrev make : ℕ → ℕ → ℕ → ℕ → ℕ → ℕ → ℕ → ProcRecord
make flag uid user system real mem io = record {
  flag = flag;
  uid = uid;
  begin = 0;
  user_ticks = user;
  system_ticks = system;
  real_ticks = real;
  mem = mem;
  io = io;
  comm = padded 17 (codes "make");
}

-- one that called exec, and two that forked alone
abbrev build : List ProcRecord
build = make 0 1000 120 60 600 500 1000 ∷ make 1 66536 60 0 60 200 3 ∷ make 3 66536 60 0 60 200 3 ∷ []

abbrev first_usage : Usage
first_usage = record { count = 1; real = 600; cpu = 180; io = 1000; mem_cpu = 90000 }

abbrev forked_usage : Usage
forked_usage = record { count = 2; real = 120; cpu = 120; io = 6; mem_cpu = 24000 }

-- counts and sums; memory is weighted by cpu
total : usage_of build ≡ record { count = 3; real = 720; cpu = 300; io = 1006; mem_cpu = 114000 }
unfolding usage_of
total = refl

abbrev stray_row : CommandRow
stray_row = record { name = padded 17 (codes "***other"); forked = false; other = true; usage = first_usage }

abbrev make_row : CommandRow
make_row = record { name = padded 17 (codes "make"); forked = false; other = false; usage = first_usage }

abbrev forked_row : CommandRow
forked_row = record { name = padded 17 (codes "make"); forked = true; other = false; usage = forked_usage }

-- a command of one call is stray
by_cpu : command_rows Cpu false false build ≡ stray_row ∷ forked_row ∷ []
unfolding command_rows in_order insert_in_order usage_of
by_cpu = refl

by_calls : command_rows Calls false false build ≡ forked_row ∷ stray_row ∷ []
unfolding command_rows in_order insert_in_order usage_of
by_calls = refl

-- all of them have rows where they are asked for
all_commands : command_rows Cpu true false build ≡ make_row ∷ forked_row ∷ []
unfolding command_rows in_order insert_in_order usage_of
all_commands = refl

reversed : command_rows Cpu true true build ≡ forked_row ∷ make_row ∷ []
unfolding command_rows in_order insert_in_order usage_of
reversed = refl

-- a row for each user, past 16 bits too
users : user_rows Cpu false build ≡ record { uid = 1000; usage = first_usage } ∷ record { uid = 66536; usage = forked_usage } ∷ []
unfolding user_rows in_order insert_in_order usage_of
users = refl

-- names print from a blank to a tilde, up to the first zero
printable : map (λ byte. is_printable (97 ∷ byte ∷ 0 ∷ 27 ∷ [])) (0x1F ∷ 0x20 ∷ 0x7E ∷ 0x7F ∷ 0x80 ∷ 0xFF ∷ []) ≡ false ∷ true ∷ true ∷ false ∷ false ∷ false ∷ []
printable = refl

-- rows have together what their records used
in_rows : together (λ (row : CommandRow). row.usage) (stray_row ∷ forked_row ∷ []) ≡ record { count = 3; real = 720; cpu = 300; io = 1006; mem_cpu = 114000 }
in_rows = refl
