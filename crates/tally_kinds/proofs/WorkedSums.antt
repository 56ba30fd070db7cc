-- Worked sums of sa(8): what savacct and usracct look like, computed by the definitions from bytes that are laid out by hand.
use Rattle.std.proofs.Common.{◌≡◌, ℕ, List, [], ◌∷◌, ◌++◌, length, map, replicate, refl}
use Rattle.std.specs.Prelude.{codes, filter}
use Rattle.tally_kinds.proofs.WorkedKinds.{field, login, looks, other, version_2}
use Rattle.tally_kinds.specs.Kinds.{is_of, kinds, looks_of}
use Rattle.tally_kinds.specs.declared.kinds.Looks.{Looks}
use Rattle.tally_kinds.specs.declared.kinds.Looks.TheVariants.{FailedLogins, Logins, Processes, Savacct, Usracct, Unknown}

-- all kinds that a whole file is of
abbrev all_kinds : List ℕ → List Looks
all_kinds bytes = filter (λ kind. is_of kind bytes (length bytes)) kinds

-- a double that shows its highest byte alone
abbrev double : ℕ → List ℕ
double highest = other 7 ++ highest ∷ []

-- doubles of no usage, of 0.01, of 50.0 and of -50.0
abbrev no_usage : List ℕ
no_usage = replicate 8 0

abbrev hundredth : List ℕ
hundredth = 0x7B ∷ 0x14 ∷ 0xAE ∷ 0x47 ∷ 0xE1 ∷ 0x7A ∷ 0x84 ∷ 0x3F ∷ []

abbrev fifty : List ℕ
fifty = replicate 6 0 ++ 0x49 ∷ 0x40 ∷ []

abbrev minus_fifty : List ℕ
minus_fifty = replicate 6 0 ++ 0x49 ∷ 0xC0 ∷ []

-- counts of calls: 1, 2 ^ 32 - 1, 2 ^ 32 and 0
abbrev one : List ℕ
one = 1 ∷ replicate 7 0

abbrev most : List ℕ
most = replicate 4 255 ++ replicate 4 0

abbrev too_many : List ℕ
too_many = replicate 4 0 ++ 1 ∷ replicate 3 0

abbrev none : List ℕ
none = replicate 8 0

-- an entry of savacct, with the last of its eight sums
abbrev command : List ℕ → ℕ → List ℕ → List ℕ → List ℕ
command text flag calls last = field 16 text ++ flag ∷ other 7 ++ calls ++ hundredth ++ fifty ++ replicate 40 0 ++ last

-- an entry of usracct, with the first of its eight sums
abbrev user : List ℕ → List ℕ → List ℕ → List ℕ
user text calls first = field 32 text ++ calls ++ first ++ hundredth ++ fifty ++ replicate 40 0

-- each with a command or a user after one that is well
abbrev commands : List ℕ → ℕ → List ℕ → List ℕ → List ℕ
commands text flag calls last = command (codes "make") 0 one no_usage ++ command text flag calls last

abbrev users : List ℕ → List ℕ → List ℕ → List ℕ
users text calls first = user (codes "ann") one no_usage ++ user text calls first

-- ---- entries, two in each file

-- a command may have no name or fill its field, and a user without a name has a number
command_sums : map looks (commands (codes "cc1") 1 one fifty ∷ commands [] 0 most hundredth ∷ commands (replicate 16 65) 1 one no_usage ∷ [])
    ≡ Savacct ∷ Savacct ∷ Savacct ∷ []
command_sums = refl

user_sums : map looks (users (codes "1001") one fifty ∷ users (codes "bob") most hundredth ∷ users (replicate 32 66) one no_usage ∷ [])
    ≡ Usracct ∷ Usracct ∷ Usracct ∷ []
user_sums = refl

-- a sum is from 2 ^ -31 up to 2 ^ 81
widest_sums : map looks (commands (codes "cc1") 0 one (double 0x3E) ∷ commands (codes "cc1") 0 one (double 0x44) ∷ users (codes "bob") one (double 0x3E) ∷ users (codes "bob") one (double 0x44) ∷ [])
    ≡ Savacct ∷ Savacct ∷ Usracct ∷ Usracct ∷ []
widest_sums = refl

-- ---- what is neither

-- below 0, nearer to it, farther from it, and a whole number where a double is to be
no_sums : map looks (commands (codes "cc1") 0 one minus_fifty ∷ commands (codes "cc1") 0 one (double 0x3D) ∷ commands (codes "cc1") 0 one (double 0x45) ∷ commands (codes "cc1") 0 one one ∷ [])
    ≡ Unknown ∷ Unknown ∷ Unknown ∷ Unknown ∷ []
no_sums = refl

no_user_sums : map looks (users (codes "bob") one minus_fifty ∷ users (codes "bob") one (double 0x3D) ∷ users (codes "bob") one (double 0x45) ∷ users (codes "bob") one one ∷ [])
    ≡ Unknown ∷ Unknown ∷ Unknown ∷ Unknown ∷ []
no_user_sums = refl

-- never called, or more often than a u32 counts
no_counts : map looks (commands (codes "cc1") 0 none fifty ∷ commands (codes "cc1") 0 too_many fifty ∷ users (codes "bob") none fifty ∷ users (codes "bob") too_many fifty ∷ [])
    ≡ Unknown ∷ Unknown ∷ Unknown ∷ Unknown ∷ []
no_counts = refl

-- a flag that is none, a text that goes on after its end, and a user without a name or a number
no_entries : map looks (commands (codes "cc1") 2 one fifty ∷ commands (codes "cc1" ++ 0 ∷ 49 ∷ []) 0 one fifty ∷ users (codes "bob" ++ 0 ∷ 49 ∷ []) one fifty ∷ users [] one fifty ∷ [])
    ≡ Unknown ∷ Unknown ∷ Unknown ∷ Unknown ∷ []
no_entries = refl

-- a file that is torn
torn_sums : map looks ((commands (codes "cc1") 0 one fifty ++ 0 ∷ []) ∷ (users (codes "bob") one fifty ++ 0 ∷ []) ∷ []) ≡ Unknown ∷ Unknown ∷ []
torn_sums = refl

-- a front of whole entries and a part of the next, of a file of three
longer_sums : looks_of (commands (codes "cc1") 0 one fifty ++ 255 ∷ []) 288 ∷ looks_of (users (codes "bob") one fifty ++ 255 ∷ []) 312 ∷ [] ≡ Savacct ∷ Usracct ∷ []
longer_sums = refl

-- ---- what has the size of whole records of another kind, too, and is of that kind alone

-- 4 entries of savacct have the size of a login record, 2 that of 3 process records, and 8 of usracct that of 13
sums_alone : all_kinds (commands (codes "cc1") 1 one fifty ++ commands [] 0 one fifty) ∷ all_kinds (commands [] 0 one fifty)
    ∷ all_kinds (users (codes "1001") one fifty ++ users (codes "bob") one fifty ++ users (codes "1001") one fifty ++ users (codes "bob") one fifty) ∷ []
    ≡ (Savacct ∷ []) ∷ (Savacct ∷ []) ∷ (Usracct ∷ []) ∷ []
sums_alone = refl

records_alone : all_kinds (login 2 0 52) ∷ all_kinds (login 6 0 52) ∷ all_kinds (version_2 2 ++ version_2 2 ++ version_2 2) ∷ []
    ≡ (Logins ∷ []) ∷ (FailedLogins ∷ Logins ∷ []) ∷ (Processes ∷ []) ∷ []
records_alone = refl
