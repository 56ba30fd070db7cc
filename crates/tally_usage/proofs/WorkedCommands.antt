-- Worked command groups and the order of their rows, computed by the definitions.
use Rattle.std.proofs.Common.{◌≡◌, ℕ, List, [], ◌∷◌, Bool, true, false, map, Less, Equal, Greater, refl}
use Rattle.std.specs.Prelude.{codes}
use Rattle.tally_records.specs.Sorted.{in_order, insert_in_order}
use Rattle.tally_records.specs.Text.{padded}
use Rattle.tally_records.specs.declared.process.ProcRecord.{ProcRecord}
use Rattle.tally_usage.specs.Command.{command_of, command_row_cmp, command_rows, is_printable, is_same_command, is_stray, other_row, records_of_command, row_of_record}
use Rattle.tally_usage.specs.Usage.{usage_of}
use Rattle.tally_usage.specs.declared.command.Command.{Command}
use Rattle.tally_usage.specs.declared.command.CommandRow.{CommandRow}
use Rattle.tally_usage.specs.declared.order.Order.TheVariants.{Cpu, Calls}

-- a process with a name, a flag and so many user ticks: one system tick, a second in all, memory of 2 and io of 3
abbrev process : List ℕ → ℕ → ℕ → ProcRecord
process name flag user_ticks = record { flag = flag; uid = 0; begin = 0; user_ticks = user_ticks; system_ticks = 1; real_ticks = 100; mem = 2; io = 3; comm = padded 17 name }

abbrev make : List ℕ
make = codes "make"

abbrev once : List ℕ
once = codes "once"

-- a name that begins with an escape
abbrev escape : List ℕ
escape = 27 ∷ codes "[m"

abbrev group : List ℕ → Bool → Command
group name forked = record { name = padded 17 name; forked = forked }

-- only the lowest bit of the flag is the fork mark
groups : map (λ flag. command_of (process make flag 0)) (0 ∷ 1 ∷ 2 ∷ 3 ∷ 254 ∷ 255 ∷ [])
    ≡ group make false ∷ group make true ∷ group make false ∷ group make true ∷ group make false ∷ group make true ∷ []
groups = refl

-- a group has one name, byte for byte, and one mark
same_groups : map (is_same_command (group make true)) (group make true ∷ group make false ∷ group (codes "makes") true ∷ group (codes "Make") true ∷ []) ≡ true ∷ false ∷ false ∷ false ∷ []
same_groups = refl

-- make twice, and once after a fork alone; a command of one call; and one of two whose name does not print
abbrev night : List ProcRecord
night = process make 0 4 ∷ process escape 0 1 ∷ process make 3 7 ∷ process once 0 5 ∷ process make 2 6 ∷ process escape 2 2 ∷ []

-- the records of a group, in order
of_group : records_of_command (group make false) night ≡ process make 0 4 ∷ process make 2 6 ∷ []
of_group = refl

-- stray are groups of one call, and those whose name does not print, however many calls they have
strays : map (is_stray night) (group make false ∷ group make true ∷ group once false ∷ group escape false ∷ []) ≡ false ∷ true ∷ true ∷ true ∷ []
strays = refl

-- an empty name prints
names : map is_printable (padded 17 escape ∷ padded 17 [] ∷ []) ≡ false ∷ true ∷ []
names = refl

abbrev make_row : CommandRow
make_row = record { name = padded 17 make; forked = false; other = false; usage = record { count = 2; real = 200; cpu = 12; io = 6; mem_cpu = 24 } }

abbrev forked_row : CommandRow
forked_row = record { name = padded 17 make; forked = true; other = false; usage = record { count = 1; real = 100; cpu = 8; io = 3; mem_cpu = 16 } }

abbrev once_row : CommandRow
once_row = record { name = padded 17 once; forked = false; other = false; usage = record { count = 1; real = 100; cpu = 6; io = 3; mem_cpu = 12 } }

abbrev escape_row : CommandRow
escape_row = record { name = padded 17 escape; forked = false; other = false; usage = record { count = 2; real = 200; cpu = 5; io = 6; mem_cpu = 10 } }

-- the four calls of the three stray groups, with no fork mark
abbrev three_groups : CommandRow
three_groups = record { name = padded 17 (codes "***other"); forked = false; other = true; usage = record { count = 4; real = 400; cpu = 19; io = 12; mem_cpu = 38 } }

stray_groups : other_row night ≡ three_groups
unfolding usage_of
stray_groups = refl

-- a record of a stray group is counted by their row, or by its own where all have rows
counting_rows : row_of_record false night (process make 3 7) ∷ row_of_record true night (process make 3 7) ∷ row_of_record false night (process make 0 4) ∷ [] ≡ three_groups ∷ forked_row ∷ make_row ∷ []
unfolding usage_of
counting_rows = refl

-- they have one row, in the order of their sum
joined : command_rows Cpu false false night ∷ command_rows Calls false true night ∷ [] ≡ (three_groups ∷ make_row ∷ []) ∷ (make_row ∷ three_groups ∷ []) ∷ []
unfolding command_rows in_order insert_in_order usage_of
joined = refl

-- all of them by cpu; by calls, where a tie goes by the name's bytes; and the same from the last to the first
in_full : command_rows Cpu true false night ∷ command_rows Calls true false night ∷ command_rows Calls true true night ∷ []
    ≡ (make_row ∷ forked_row ∷ once_row ∷ escape_row ∷ []) ∷ (escape_row ∷ make_row ∷ forked_row ∷ once_row ∷ []) ∷ (once_row ∷ forked_row ∷ make_row ∷ escape_row ∷ []) ∷ []
unfolding command_rows in_order insert_in_order usage_of
in_full = refl

-- without a stray group there is no row of them, and without a record no row
no_strays : command_rows Cpu false false (process make 0 4 ∷ process make 2 6 ∷ []) ∷ command_rows Cpu false false [] ∷ [] ≡ (make_row ∷ []) ∷ [] ∷ []
unfolding command_rows in_order insert_in_order usage_of
no_strays = refl

-- a row with so many calls and so many ticks of cpu
abbrev row : List ℕ → Bool → Bool → ℕ → ℕ → CommandRow
row name forked other count cpu = record { name = padded 17 name; forked = forked; other = other; usage = record { count = count; real = 0; cpu = cpu; io = 0; mem_cpu = 0 } }

-- the greatest number comes first: of ticks by cpu, of records by calls
greatest_first : command_row_cmp Cpu (row make false false 1 9) (row make false false 2 8) ∷ command_row_cmp Calls (row make false false 1 9) (row make false false 2 8) ∷ command_row_cmp Cpu (row once true true 3 9) (row make false false 3 8) ∷ []
    ≡ Less ∷ Greater ∷ Less ∷ []
greatest_first = refl

-- at a tie the name's first different byte decides, a capital before each small letter, and a name before one that goes on
by_name : map (λ name. command_row_cmp Cpu (row make true true 1 9) (row name false false 2 9)) (codes "male" ∷ codes "Zoo" ∷ codes "mak" ∷ codes "makes" ∷ []) ≡ Less ∷ Greater ∷ Greater ∷ Less ∷ []
by_name = refl

-- then the unmarked comes before the marked
by_mark : command_row_cmp Cpu (row make false true 1 9) (row make true false 2 9) ∷ command_row_cmp Calls (row make true false 2 9) (row make false true 2 8) ∷ [] ≡ Less ∷ Greater ∷ []
by_mark = refl

-- then a command of that name before the row of the stray groups
by_kind : command_row_cmp Cpu (row (codes "***other") false false 1 9) (row (codes "***other") false true 2 9) ∷ command_row_cmp Cpu (row (codes "***other") false true 1 9) (row (codes "***other") false false 2 9)
    ∷ command_row_cmp Cpu (row (codes "***other") false true 1 9) (row (codes "***other") false true 2 9) ∷ [] ≡ Less ∷ Greater ∷ Equal ∷ []
by_kind = refl
