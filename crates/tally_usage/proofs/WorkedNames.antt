-- Worked examples of names, computed by the definitions.
use Rattle.std.proofs.Common.{◌≡◌, ℕ, List, [], ◌∷◌, ◌++◌, map, Option, None, Some, true, false, refl}
use Rattle.std.specs.Prelude.{codes}
use Rattle.tally_usage.specs.Names.{fields_of, is_uid, lines_of, name_in, names_of}

abbrev file : List ℕ
file =
    codes "root:x:0:0:root:/root:/bin/sh\n" ++ codes "\n" ++ codes "# a comment: no user\n"
    ++ codes "ann:x:1000:1000:Ann:/home/ann:/bin/sh\n" ++ codes "bob:x:1000:1000:Bob:/home/bob:/bin/sh\n"
    ++ codes "last:x:4294967295:0:::"

-- the first line with the number, also where a later one has it too; the last line has no line feed
found : map (name_in file) (0 ∷ 1000 ∷ 4294967295 ∷ []) ≡ Some (codes "root") ∷ Some (codes "ann") ∷ Some (codes "last") ∷ []
found = refl

not_found : map (name_in file) (1 ∷ 100 ∷ 4294967296 ∷ []) ≡ None ∷ None ∷ None ∷ []
not_found = refl

no_file : name_in [] 0 ≡ None
no_file = refl

-- the name of the number 7 in a file of one line
abbrev seven : List ℕ → Option (List ℕ)
seven line = name_in line 7

-- fields may be empty but for the name and the number, and the number may begin with zeros
whole : map seven (codes "eve::7::::" ∷ codes "eve:x:007:7:::\n" ∷ codes "e v\te:x:7:7:g:h:s\r\n" ∷ []) ≡ Some (codes "eve") ∷ Some (codes "eve") ∷ Some (codes "e v\te") ∷ []
whole = refl

-- six fields, eight, no name, no number, a sign, a blank, a letter
passed_over : map seven (codes "eve:x:7:7::" ∷ codes "eve:x:7:7::::" ∷ codes ":x:7:7:::" ∷ codes "eve:x::7:::" ∷ codes "eve:x:+7:7:::" ∷ codes "eve:x:-7:7:::" ∷ codes "eve:x: 7:7:::" ∷ codes "eve:x:7a:7:::" ∷ [])
    ≡ None ∷ None ∷ None ∷ None ∷ None ∷ None ∷ None ∷ None ∷ []
passed_over = refl

-- a line that is passed over leaves the number to a later one
later : seven (codes "eve:x:7:7::\n" ++ codes ":x:7:7:::\n" ++ codes "mallory:x:7:7:::\n") ≡ Some (codes "mallory")
later = refl

-- the greatest number, and one past it, which is no number of a user
numbers : map is_uid (codes "4294967295" ∷ codes "4294967296" ∷ codes "00000000000000000000000000007" ∷ []) ≡ true ∷ false ∷ true ∷ []
numbers = refl

-- a line feed ends a line and a colon a field, also where nothing stands before it
parts : lines_of (codes "ann\n\nb:c") ∷ fields_of (codes "ann::b\n") ∷ [] ≡ (codes "ann" ∷ [] ∷ codes "b:c" ∷ []) ∷ (codes "ann" ∷ [] ∷ codes "b\n" ∷ []) ∷ []
parts = refl

-- names by number
by_number : map (names_of ((0, codes "root") ∷ (1000, codes "ann") ∷ [])) (1000 ∷ 0 ∷ 1 ∷ []) ≡ Some (codes "ann") ∷ Some (codes "root") ∷ None ∷ []
by_number = refl
