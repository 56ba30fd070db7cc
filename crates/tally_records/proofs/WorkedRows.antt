-- Worked examples, computed by the definitions.
use Rattle.std.proofs.Common.{◌≡◌, ℕ, ◌-◌, List, [], ◌∷◌, ◌++◌, length, map, replicate, Some, refl}
use Rattle.std.specs.Prelude.{codes, pos}
use Rattle.tally_records.specs.declared.login.Event.{Event}
use Rattle.tally_records.specs.declared.login.Event.TheVariants.{Login, Logout, Boot, Down, OldTime, NewTime, Nothing}
use Rattle.tally_records.specs.declared.process.ProcRecord.{ProcRecord}
use Rattle.tally_records.specs.Compressed.{comp_of}
use Rattle.tally_records.specs.Elapsed.{elapsed_of, rounded_down}
use Rattle.tally_records.specs.Event.{event_of}
use Rattle.tally_records.specs.ProcRecord.{proc_of}
use Rattle.tally_records.specs.Text.{field_words, padded, text_at, text_of, u16_at, u32_at, whole_words, word_of}

-- a comp_t has a base-8 exponent
numbers : map comp_of (0 ∷ 8191 ∷ 8193 ∷ 16383 ∷ 65535 ∷ []) ≡ 0 ∷ 8191 ∷ 8 ∷ 65528 ∷ 17177772032 ∷ []
numbers = refl

-- a text ends at its first NUL, or fills its field
texts : map (text_of 4) ((97 ∷ 0 ∷ 98 ∷ 99 ∷ []) ∷ (97 ∷ 98 ∷ 99 ∷ 100 ∷ []) ∷ (97 ∷ 98 ∷ []) ∷ []) ≡ (97 ∷ 0 ∷ 0 ∷ 0 ∷ []) ∷ (97 ∷ 98 ∷ 99 ∷ 100 ∷ []) ∷ (97 ∷ 98 ∷ 0 ∷ 0 ∷ []) ∷ []
unfolding text_of
texts = refl

-- a text at an offset is of its field alone
texts_at : text_at 1 2 (97 ∷ 98 ∷ 99 ∷ 100 ∷ []) ∷ text_at 2 2 (97 ∷ 98 ∷ 0 ∷ 100 ∷ []) ∷ [] ≡ (98 ∷ 99 ∷ []) ∷ (0 ∷ 0 ∷ []) ∷ []
unfolding text_of
texts_at = refl

-- a text fills its field with zeros, and one that is longer stands whole
padded_texts : map (padded 3) ([] ∷ (97 ∷ []) ∷ (97 ∷ 98 ∷ 99 ∷ []) ∷ (97 ∷ 98 ∷ 99 ∷ 100 ∷ []) ∷ []) ≡ (0 ∷ 0 ∷ 0 ∷ []) ∷ (97 ∷ 0 ∷ 0 ∷ []) ∷ (97 ∷ 98 ∷ 99 ∷ []) ∷ (97 ∷ 98 ∷ 99 ∷ 100 ∷ []) ∷ []
padded_texts = refl

-- a field of three words with its first NUL after so many letters, and letters after that
abbrev field : ℕ → List ℕ
field letters = replicate letters 97 ++ 0 ∷ replicate (23 - letters) 98

-- the words up to that with the first NUL: the first, all of its eight bytes, the second and the third
up_to_nul : map (λ letters. length (whole_words (field letters))) (0 ∷ 7 ∷ 8 ∷ 15 ∷ 16 ∷ 23 ∷ []) ≡ 8 ∷ 8 ∷ 16 ∷ 16 ∷ 24 ∷ 24 ∷ []
up_to_nul = refl

first_word : whole_words (field 2) ≡ 97 ∷ 97 ∷ 0 ∷ 98 ∷ 98 ∷ 98 ∷ 98 ∷ 98 ∷ []
first_word = refl

-- a field without a NUL is whole
without_nul : whole_words (replicate 16 97) ≡ replicate 16 97
without_nul = refl

-- a word of eight bytes has the first of them lowest
low_first : word_of (8 ∷ 7 ∷ 6 ∷ 5 ∷ 4 ∷ 3 ∷ 2 ∷ 1 ∷ []) ≡ 72623859790382856
unfolding word_of
low_first = refl

-- the words of a field in the order of its bytes
in_order_of_bytes : field_words (1 ∷ replicate 7 0 ++ 0 ∷ 1 ∷ replicate 6 0) ≡ 1 ∷ 256 ∷ []
unfolding word_of
in_order_of_bytes = refl

abbrev event : ℕ → List ℕ → List ℕ → Event
event kind line user = event_of (record { kind = kind; line = padded 32 line; user = padded 32 user; remote = padded 256 []; time = pos 0 })

-- logins and logouts, with and without a user and a line
sessions : event 7 (codes "tty1") (codes "ann") ∷ event 7 (codes "tty1") [] ∷ event 7 [] (codes "ann") ∷ event 8 (codes "tty1") (codes "ann") ∷ event 8 [] [] ∷ [] ≡ Login ∷ Logout ∷ Nothing ∷ Logout ∷ Nothing ∷ []
unfolding event_of
sessions = refl

-- a shutdown is named so in full, on a line that begins with a tilde
shutdowns : event 1 (codes "~") (codes "shutdown") ∷ event 1 (codes "~") (codes "shutdownx") ∷ event 1 (codes "tty1") (codes "shutdown") ∷ event 1 (codes "~") (codes "runlevel") ∷ [] ≡ Down ∷ Nothing ∷ Nothing ∷ Nothing ∷ []
unfolding event_of
shutdowns = refl

-- a line that begins with a tilde may go on, and one that has it later is no line of a shutdown
on_lines : map (λ line. event 1 line (codes "shutdown")) (codes "~~" ∷ codes "~tty1" ∷ codes "t~" ∷ [] ∷ []) ≡ Down ∷ Down ∷ Nothing ∷ Nothing ∷ []
unfolding event_of
on_lines = refl

-- without a line nothing ends, whether a user is named or not
without_line : event 7 [] [] ∷ event 8 [] (codes "ann") ∷ [] ≡ Nothing ∷ Nothing ∷ []
unfolding event_of
without_line = refl

-- a boot, and the clock's times
others : event 2 (codes "~") (codes "reboot") ∷ event 4 (codes "|") [] ∷ event 3 (codes "{") [] ∷ event 6 (codes "tty1") (codes "LOGIN") ∷ [] ≡ Boot ∷ OldTime ∷ NewTime ∷ Nothing ∷ []
unfolding event_of
others = refl

-- records of the other types mean nothing, and a boot needs no name
other_types : event 0 (codes "tty1") (codes "ann") ∷ event 5 (codes "tty1") (codes "ann") ∷ event 9 (codes "tty1") (codes "ann") ∷ event 2 [] [] ∷ [] ≡ Nothing ∷ Nothing ∷ Nothing ∷ Boot ∷ []
unfolding event_of
other_types = refl

-- 0, a half, 1, 1.5 and 600 ticks
small_times : map elapsed_of (0 ∷ 1056964608 ∷ 1065353216 ∷ 1069547520 ∷ 1142292480 ∷ []) ≡ 0 ∷ 0 ∷ 1 ∷ 1 ∷ 600 ∷ []
unfolding elapsed_of rounded_down
small_times = refl

-- the greatest number below 2 ^ 64, 2 ^ 64, and no number
great_times : map elapsed_of (1602224127 ∷ 1602224128 ∷ 2143289344 ∷ []) ≡ 18446742974197923840 ∷ 18446744073709551615 ∷ 18446744073709551615 ∷ []
unfolding elapsed_of rounded_down
great_times = refl

-- the least number above 0, and with the sign bit 0 and 1
no_times : map elapsed_of (1 ∷ 2147483648 ∷ 3212836864 ∷ []) ≡ 0 ∷ 0 ∷ 0 ∷ []
unfolding elapsed_of rounded_down
no_times = refl

-- infinity, and with the sign bit infinity, 600 and no number
signed_times : map elapsed_of (2139095040 ∷ 4286578688 ∷ 3289776128 ∷ 4290772992 ∷ []) ≡ 18446744073709551615 ∷ 0 ∷ 0 ∷ 0 ∷ []
unfolding elapsed_of rounded_down
signed_times = refl

-- a record with a value of its own in each field
abbrev wanted : List ℕ → ProcRecord
wanted name = record { flag = 1; uid = 66536; begin = 16909060; user_ticks = 120; system_ticks = 60; real_ticks = 600; mem = 500; io = 1000; comm = padded 17 name }

abbrev numbers_2 : List ℕ
numbers_2 = 120 ∷ 0 ∷ 60 ∷ 0 ∷ 88 ∷ 2 ∷ 244 ∷ 1 ∷ 232 ∷ 3 ∷ []

abbrev uid : List ℕ
uid = 232 ∷ 3 ∷ 1 ∷ 0 ∷ []

abbrev begin : List ℕ
begin = 4 ∷ 3 ∷ 2 ∷ 1 ∷ []

-- what no field holds
abbrev other : ℕ → List ℕ
other n = replicate n 170

version_two : proc_of ((1 ∷ 2 ∷ []) ++ other 6 ++ begin ++ numbers_2 ++ other 14 ++ codes "seventeen-letters" ++ other 3 ++ uid ++ other 4) ≡ Some (wanted (codes "seventeen-letters"))
unfolding text_of u32_at u16_at
version_two = refl

abbrev numbers_3 : List ℕ
numbers_3 = 0 ∷ 0 ∷ 22 ∷ 68 ∷ 120 ∷ 0 ∷ 60 ∷ 0 ∷ 244 ∷ 1 ∷ 232 ∷ 3 ∷ []

version_three : proc_of ((1 ∷ 3 ∷ []) ++ other 6 ++ uid ++ other 12 ++ begin ++ numbers_3 ++ other 8 ++ codes "sixteen-letters!") ≡ Some (wanted (codes "sixteen-letters!"))
unfolding elapsed_of rounded_down text_of u32_at u16_at
version_three = refl

-- the same with an exponent of 1, 2, 7, 1 and 7 in the five numbers, and each bit of the flag
abbrev scaled : ℕ → ProcRecord
scaled real_ticks = record { flag = 255; uid = 66536; begin = 16909060; user_ticks = 8; system_ticks = 64; real_ticks = real_ticks; mem = 65528; io = 17177772032; comm = padded 17 (codes "make") }

-- 0x2001, 0x4001, 0xE001, 0x3FFF and 0xFFFF
exponents_two : proc_of ((255 ∷ 2 ∷ []) ++ other 6 ++ begin ++ (1 ∷ 32 ∷ 1 ∷ 64 ∷ 1 ∷ 224 ∷ 255 ∷ 63 ∷ 255 ∷ 255 ∷ []) ++ other 14 ++ padded 17 (codes "make") ++ other 3 ++ uid ++ other 4) ≡ Some (scaled 2097152)
unfolding text_of u32_at u16_at
exponents_two = refl

-- an elapsed time of 2 ^ 40, whose word is 0x53800000, before 0x2001, 0x4001, 0x3FFF and 0xFFFF
exponents_three : proc_of ((255 ∷ 3 ∷ []) ++ other 6 ++ uid ++ other 12 ++ begin ++ (0 ∷ 0 ∷ 128 ∷ 83 ∷ []) ++ (1 ∷ 32 ∷ 1 ∷ 64 ∷ 255 ∷ 63 ∷ 255 ∷ 255 ∷ []) ++ other 8 ++ padded 16 (codes "make")) ≡ Some (scaled 1099511627776)
unfolding elapsed_of rounded_down text_of u32_at u16_at
exponents_three = refl
