-- Worked rows of users, computed by the definitions.
use Rattle.std.proofs.Common.{◌≡◌, ℕ, List, [], ◌∷◌, Bool, true, false, map, Less, Equal, Greater, refl}
use Rattle.tally_records.specs.Sorted.{in_order, insert_in_order}
use Rattle.tally_records.specs.Text.{padded}
use Rattle.tally_records.specs.declared.process.ProcRecord.{ProcRecord}
use Rattle.tally_usage.specs.Usage.{cpu_of, no_usage, plus, usage_of}
use Rattle.tally_usage.specs.User.{records_of_user, user_row, user_row_cmp, user_rows}
use Rattle.tally_usage.specs.declared.order.Order.{Order}
use Rattle.tally_usage.specs.declared.order.Order.TheVariants.{Cpu, Calls}
use Rattle.tally_usage.specs.declared.user.UidRow.{UidRow}

-- a process of a user with so many ticks of user time and of system time: two seconds in all, memory of 5 and io of 7
abbrev process : ℕ → ℕ → ℕ → ProcRecord
process uid user_ticks system_ticks = record { flag = 1; uid = uid; begin = 0; user_ticks = user_ticks; system_ticks = system_ticks; real_ticks = 200; mem = 5; io = 7; comm = padded 17 [] }

-- the cpu of a record is its user ticks and its system ticks
cpu : map cpu_of (process 0 120 60 ∷ process 0 0 60 ∷ process 0 120 0 ∷ []) ≡ 180 ∷ 60 ∷ 120 ∷ []
cpu = refl

-- what no record used
nothing : usage_of [] ∷ no_usage ∷ [] ≡ record { count = 0; real = 0; cpu = 0; io = 0; mem_cpu = 0 } ∷ record { count = 0; real = 0; cpu = 0; io = 0; mem_cpu = 0 } ∷ []
unfolding usage_of
nothing = refl

-- two usages together, number by number
together : plus (record { count = 1; real = 20; cpu = 300; io = 4000; mem_cpu = 50000 }) (record { count = 5; real = 40; cpu = 300; io = 2000; mem_cpu = 10000 }) ≡ record { count = 6; real = 60; cpu = 600; io = 6000; mem_cpu = 60000 }
together = refl

-- user 1000 with three records of 200 ticks, 1001 with two of 200, 1002 with one of 300, and 7 with two of 2
abbrev night : List ProcRecord
night = process 1001 90 10 ∷ process 1002 200 100 ∷ process 1000 50 0 ∷ process 7 1 0 ∷ process 1001 100 0 ∷ process 1000 50 0 ∷ process 7 0 1 ∷ process 1000 60 40 ∷ []

-- the records of a user, in order
of_user : records_of_user 7 night ≡ process 7 1 0 ∷ process 7 0 1 ∷ []
of_user = refl

-- a user's row has the sums of its records
row_of_user : user_row night 1000 ≡ record { uid = 1000; usage = record { count = 3; real = 600; cpu = 200; io = 21; mem_cpu = 1000 } }
unfolding usage_of
row_of_user = refl

abbrev uids : Order → Bool → List ℕ
uids order reversed = map (λ (r : UidRow). r.uid) (user_rows order reversed night)

-- the most cpu first, at a tie the smaller number, and the same from the last to the first
by_cpu : uids Cpu false ∷ uids Cpu true ∷ [] ≡ (1002 ∷ 1000 ∷ 1001 ∷ 7 ∷ []) ∷ (7 ∷ 1001 ∷ 1000 ∷ 1002 ∷ []) ∷ []
unfolding user_rows in_order insert_in_order usage_of
by_cpu = refl

-- the most calls first, likewise
by_calls : uids Calls false ∷ uids Calls true ∷ [] ≡ (1000 ∷ 7 ∷ 1001 ∷ 1002 ∷ []) ∷ (1002 ∷ 1001 ∷ 7 ∷ 1000 ∷ []) ∷ []
unfolding user_rows in_order insert_in_order usage_of
by_calls = refl

-- without a record no user has a row
no_users : user_rows Calls false [] ≡ []
unfolding user_rows in_order insert_in_order usage_of
no_users = refl

abbrev row : ℕ → ℕ → ℕ → UidRow
row uid count cpu = record { uid = uid; usage = record { count = count; real = 0; cpu = cpu; io = 0; mem_cpu = 0 } }

-- numbers of users are compared as numbers, and only at a tie
ties : map (λ other. user_row_cmp Cpu (row 1000 1 5) other) (row 7 2 4 ∷ row 7 1 6 ∷ row 7 1 5 ∷ row 10000 1 5 ∷ row 1000 2 5 ∷ []) ≡ Less ∷ Greater ∷ Greater ∷ Less ∷ Equal ∷ []
ties = refl

ties_of_calls : map (λ other. user_row_cmp Calls (row 1000 5 1) other) (row 7 4 2 ∷ row 7 6 1 ∷ row 7 5 1 ∷ row 10000 5 1 ∷ row 1000 5 2 ∷ []) ≡ Less ∷ Greater ∷ Greater ∷ Less ∷ Equal ∷ []
ties_of_calls = refl
