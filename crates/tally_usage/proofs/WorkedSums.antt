-- Worked sums and tables of groups, and sums that are of other records.
use Rattle.std.proofs.Common.{◌≡◌, ◌<◌, ◌*◌, List, [], ◌∷◌, ap, false, nat_eq, ℕ, Option, refl, replicate, unwrap_or, arith}
use Rattle.tally_records.specs.ProcRecord.{IsBounded}
use Rattle.tally_records.specs.declared.process.ProcRecord.{ProcRecord}
use Rattle.tally_usage.specs.Sums.{AreSumsOf, Counted}
use Rattle.tally_usage.specs.Totals.{HasMore}
use Rattle.tally_usage.specs.Usage.{usage_of}
use Rattle.tally_usage.specs.declared.command.Command.{Command}
use Rattle.tally_usage.specs.declared.usage.Usage.{Usage}

-- a process of user 7
abbrev process : ProcRecord
process = record { flag = 0; uid = 7; begin = 0; user_ticks = 3; system_ticks = 2; real_ticks = 9; mem = 4; io = 6; comm = replicate 17 0 }

abbrev usage : ℕ → Usage
usage count = record { count = count; real = 9 * count; cpu = 5 * count; io = 6 * count; mem_cpu = 20 * count }

abbrev command : Command
command = record { name = replicate 17 0; forked = false }

-- sums over these groups and users
abbrev sums : List (Command × Usage) → List (ℕ × Usage) → Usage → Counted
sums commands users total = record { commands = commands; users = users; total = total }

no_records : (k : ℕ) (d : ProcRecord) → k < 0 → IsBounded d
no_records k d h = omega arith

-- the sums of no records
of_nothing : AreSumsOf (sums [] [] (usage 0)) []
unfolding usage_of
of_nothing = record { few = omega arith; bounded = no_records; total = refl; commands = record { at = λ k. refl }; users = record { at = λ k. refl } }

-- sums of a record have it in their total, in its group and in its user
no_total : (commands : List (Command × Usage)) (users : List (ℕ × Usage)) → AreSumsOf (sums commands users (usage 0)) (process ∷ []) → ⊥
unfolding usage_of
no_total commands users s = let wrong : 0 ≡ 1 = ap (λ (u : Usage). u.count) s.total in omega (arith, wrong)

no_group : (users : List (ℕ × Usage)) (total : Usage) → AreSumsOf (sums [] users total) (process ∷ []) → ⊥
unfolding usage_of
no_group users total s = let wrong : 0 ≡ 1 = ap (λ (u : Usage). u.count) (s.commands.at command) in omega (arith, wrong)

no_user : (commands : List (Command × Usage)) (total : Usage) → AreSumsOf (sums commands [] total) (process ∷ []) → ⊥
unfolding usage_of
no_user commands total s = let wrong : 0 ≡ 1 = ap (λ (u : Usage). u.count) (s.users.at 7) in omega (arith, wrong)

-- and a user without records has nothing
no_other_user : (commands : List (Command × Usage)) (total : Usage) → AreSumsOf (sums commands ((8, usage 1) ∷ []) total) [] → ⊥
unfolding usage_of
no_other_user commands total s = let wrong : 1 ≡ 0 = ap (λ (u : Usage). u.count) (s.users.at 8) in omega (arith, wrong)

-- what a table has for a key
abbrev count_in : Option Usage → ℕ
count_in found = (unwrap_or found (usage 0)).count

-- where a key has more, that is on top of what it had
no_less : HasMore nat_eq ((7, usage 2) ∷ []) ((7, usage 1) ∷ []) 7 (usage 1) → ⊥
no_less m = let wrong : 1 ≡ 3 = ap count_in (m.at 7) in omega (arith, wrong)

-- and no other key has more
no_other_key : HasMore nat_eq ((7, usage 2) ∷ []) ((7, usage 3) ∷ (8, usage 1) ∷ []) 7 (usage 1) → ⊥
no_other_key m = let wrong : 1 ≡ 0 = ap count_in (m.at 8) in omega (arith, wrong)
