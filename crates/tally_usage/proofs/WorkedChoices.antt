-- Worked choices of process records, computed by the definitions.
use Rattle.std.proofs.Common.{◌≡◌, ℕ, List, [], ◌∷◌, ◌++◌, true, false, map, replicate, Option, Some, None, pos, refl}
use Rattle.tally_records.specs.Text.{padded}
use Rattle.tally_records.specs.declared.process.ProcRecord.{ProcRecord}
use Rattle.tally_usage.specs.Choice.{chosen, every_proc, is_every_proc, is_number, is_number_among}
use Rattle.tally_usage.specs.declared.choice.ProcChoice.{ProcChoice}

abbrev no_numbers : List (Option ℕ)
no_numbers = None ∷ None ∷ None ∷ None ∷ None ∷ None ∷ None ∷ None ∷ []

-- a number in the first of the eight places
abbrev in_first : ℕ → List (Option ℕ)
in_first uid = Some uid ∷ replicate 7 None

-- a number in the last of them
abbrev in_last : ℕ → List (Option ℕ)
in_last uid = replicate 7 None ++ Some uid ∷ []

-- an empty place is no number, not even that of root
same_number : map (is_number 0) (Some 0 ∷ Some 1 ∷ None ∷ []) ≡ true ∷ false ∷ false ∷ []
same_number = refl

-- where a number is named, it alone is chosen, in whatever place it stands
chosen_numbers : map (λ uids. map (is_number_among uids) (0 ∷ 1000 ∷ [])) (in_first 1000 ∷ in_last 1000 ∷ in_first 0 ∷ (Some 0 ∷ in_last 1000) ∷ [])
    ≡ (false ∷ true ∷ []) ∷ (false ∷ true ∷ []) ∷ (true ∷ false ∷ []) ∷ (true ∷ true ∷ []) ∷ []
chosen_numbers = refl

-- where none is named, all are
unnamed : map (is_number_among no_numbers) (0 ∷ 1000 ∷ 4294967295 ∷ []) ≡ true ∷ true ∷ true ∷ []
unnamed = refl

-- all process records: no user is named, over all time
everything : every_proc ≡ record { uids = no_numbers; period = record { from = None; to = None } }
everything = refl

-- a user, a beginning or an end leaves some out, even root or the second 0
some_left_out : map is_every_proc (every_proc ∷ record every_proc { uids = in_last 1000 } ∷ record every_proc { uids = in_first 0 } ∷ record every_proc { period = record { from = Some (pos 0); to = None } }
    ∷ record every_proc { period = record { from = None; to = Some (pos 0) } } ∷ record { uids = in_first 1000; period = record { from = Some (pos 0); to = Some (pos 1) } } ∷ [])
    ≡ true ∷ false ∷ false ∷ false ∷ false ∷ false ∷ []
some_left_out = refl

-- a process of a user that began at a second, and ran for 10 seconds
abbrev process : ℕ → ℕ → ProcRecord
process uid begin = record { flag = 0; uid = uid; begin = begin; user_ticks = 1; system_ticks = 0; real_ticks = 1000; mem = 0; io = 0; comm = padded 17 [] }

abbrev day : List ProcRecord
day = process 0 95 ∷ process 1000 100 ∷ process 0 299 ∷ process 1001 300 ∷ process 1000 299 ∷ process 1000 99 ∷ []

-- who was chosen, and when each began
abbrev shown : ProcChoice → List (ℕ × ℕ)
shown choice = map (λ (r : ProcRecord). (r.uid, r.begin)) (chosen choice day)

-- all of them, in their order
all_chosen : shown every_proc ≡ (0, 95) ∷ (1000, 100) ∷ (0, 299) ∷ (1001, 300) ∷ (1000, 299) ∷ (1000, 99) ∷ []
all_chosen = refl

-- those of a user, and of two
by_user : map shown (record every_proc { uids = in_last 1000 } ∷ record every_proc { uids = Some 1001 ∷ in_last 0 } ∷ record every_proc { uids = in_first 7 } ∷ [])
    ≡ ((1000, 100) ∷ (1000, 299) ∷ (1000, 99) ∷ []) ∷ ((0, 95) ∷ (0, 299) ∷ (1001, 300) ∷ []) ∷ [] ∷ []
by_user = refl

-- those that began in a period, which has its first second and not its end, whenever they ended
by_time : map shown (record every_proc { period = record { from = Some (pos 100); to = Some (pos 300) } } ∷ record every_proc { period = record { from = None; to = Some (pos 100) } } ∷ record every_proc { period = record { from = Some (pos 300); to = None } } ∷ [])
    ≡ ((1000, 100) ∷ (0, 299) ∷ (1000, 299) ∷ []) ∷ ((0, 95) ∷ (1000, 99) ∷ []) ∷ ((1001, 300) ∷ []) ∷ []
by_time = refl

-- those of a user that also began in a period
by_both : shown (record { uids = in_first 1000; period = record { from = Some (pos 100); to = Some (pos 300) } }) ≡ (1000, 100) ∷ (1000, 299) ∷ []
by_both = refl
