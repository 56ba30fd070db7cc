-- Worked values: rows of wtmpdb's table, their moments, and the login records of these, computed by the definitions from values that are laid out by hand.
use Rattle.std.proofs.Common.{◌≡◌, ℕ, true, false, List, [], ◌∷◌, ◌++◌, map, length, replicate, Some, None, refl}
use Rattle.std.specs.Fmt.{digits}
use Rattle.std.specs.List.{range_with_len}
use Rattle.std.specs.Prelude.{ℤ, pos, negsuc, codes}
use Rattle.sqlite_value.specs.Order.{Row}
use Rattle.sqlite_value.specs.declared.value.Value.{Value}
use Rattle.sqlite_value.specs.declared.value.Value.TheVariants.{Null, Int, Text}
use Rattle.tally_records.specs.LoginRecord.{login_of}
use Rattle.tally_records.specs.Text.{padded, text_of, u16_at, u32_at, i16_at, i32_at}
use Rattle.tally_records.specs.declared.login.LoginRecord.{LoginRecord}
use Rattle.tally_wtmpdb.specs.Fields.{field, kept}
use Rattle.tally_wtmpdb.specs.Lines.{mark_at, open_logins}
use Rattle.tally_wtmpdb.specs.Made.{bytes_of, marked_line, records_of}
use Rattle.tally_wtmpdb.specs.Moments.{moment, moments}
use Rattle.tally_wtmpdb.specs.Rows.{boots, first_fault, second_of, sessions}
use Rattle.tally_wtmpdb.specs.declared.fault.RowFault.TheVariants.{LongUser, Time}
use Rattle.tally_wtmpdb.specs.declared.moment.Moment.{Moment}
use Rattle.tally_wtmpdb.specs.declared.moment.What.TheVariants.{Logout, Down, Boot, Login, LogoutAtOnce}

abbrev pub row : ℤ → ℤ → List ℕ → Value → Value → List ℕ → List ℕ → Row
row id type user login logout tty remote = Int id ∷ Null ∷ Int type ∷ Text user ∷ login ∷ logout ∷ Text tty ∷ Text remote ∷ Null ∷ []

abbrev first_boot : Row
first_boot = row (pos 1) (pos 1) (codes "reboot") (Int (pos 1_000_000_000)) (Int (pos 8_000_000_000)) (codes "~") (codes "6.12")

abbrev ann : Row
ann = row (pos 2) (pos 3) (codes "ann") (Int (pos 1_100_900_000)) (Int (pos 1_700_100_000)) (codes "tty1") []

abbrev bob : Row
bob = row (pos 3) (pos 3) (codes "bob") (Int (pos 1_200_000_000)) Null (codes "ssh") (codes "192.0.2.7")

abbrev level : Row
level = row (pos 4) (pos 2) (codes "runlevel") (Int (pos 1_400_000_000)) Null (codes "~") []

abbrev second_boot : Row
second_boot = row (pos 6) (pos 1) (codes "reboot") (Int (pos 9_000_000_000)) Null (codes "~") (codes "6.12")

-- its Logout is before its Login
abbrev cat : Row
cat = row (pos 17) (pos 3) (codes "cat") (Int (pos 9_100_000_000)) (Int (pos 9_000_500_000)) (codes "ssh") []

abbrev day : List Row
day = first_boot ∷ ann ∷ bob ∷ level ∷ second_boot ∷ cat ∷ []

kinds_of_rows : sessions day ≡ ann ∷ bob ∷ cat ∷ []
kinds_of_rows = refl

boots_of_day : boots day ≡ first_boot ∷ second_boot ∷ []
boots_of_day = refl

-- a session without a user, without a line, or without a Login is none
no_sessions : sessions (row (pos 1) (pos 3) [] (Int (pos 1)) Null (codes "tty1") [] ∷ row (pos 2) (pos 3) (codes "ann") (Int (pos 1)) Null [] [] ∷ row (pos 3) (pos 3) (codes "ann") Null Null (codes "tty1") [] ∷ []) ≡ []
no_sessions = refl

moments_of_day : moments day
    ≡ moment 0 Boot (pos 1_000_000_000) ∷ moment 0 Down (pos 8_000_000_000) ∷ moment 1 Login (pos 1_100_900_000) ∷ moment 1 Logout (pos 1_700_100_000)
    ∷ moment 2 Login (pos 1_200_000_000) ∷ moment 4 Boot (pos 9_000_000_000) ∷ moment 5 Login (pos 9_100_000_000) ∷ moment 5 LogoutAtOnce (pos 9_100_000_000) ∷ []
moments_of_day = refl

-- whole seconds, downward before 1970 too, from 1901-12-13 20:45:52 to 2038-01-19 03:14:07
seconds : map second_of (pos 1_100_900_000 ∷ pos 999_999 ∷ negsuc 0 ∷ negsuc 999_999 ∷ negsuc 1_000_000 ∷ [])
    ≡ Some (pos 1_100) ∷ Some (pos 0) ∷ Some (negsuc 0) ∷ Some (negsuc 0) ∷ Some (negsuc 1) ∷ []
seconds = refl

last_seconds : map second_of (pos 2_147_483_647_999_999 ∷ pos 2_147_483_648_000_000 ∷ negsuc 2_147_483_647_999_999 ∷ negsuc 2_147_483_648_000_000 ∷ [])
    ≡ Some (pos 2_147_483_647) ∷ None ∷ Some (negsuc 2_147_483_647) ∷ None ∷ []
last_seconds = refl

-- the first fault in the table's order; a run level has none
faults : first_fault (level ∷ ann ∷ row (pos 9) (pos 3) (replicate 33 97) (Int (pos 1)) Null (codes "tty1") [] ∷ row (pos 8) (pos 1) [] (Int (pos 2_147_483_648_000_000)) Null [] [] ∷ []) ≡ Some (LongUser (pos 9))
faults = refl

late_boot : first_fault (ann ∷ row (pos 8) (pos 1) (replicate 33 97) (Int (pos 1)) (Int (pos 2_147_483_648_000_000)) [] [] ∷ []) ≡ Some (Time (pos 8))
late_boot = refl

no_fault : first_fault day ≡ None
no_fault = refl

-- a line with a mark has the row's number; a long TTY is cut, so that its number fits, and ends at its first NUL
marked_lines : map marked_line (ann ∷ cat ∷ row (negsuc 4) (pos 3) [] Null Null (replicate 40 97) [] ∷ row (pos 12) (pos 3) [] Null Null (97 ∷ 0 ∷ 98 ∷ []) [] ∷ [])
    ≡ codes "tty1#2" ∷ codes "ssh#17" ∷ (replicate 29 97 ++ codes "#-5") ∷ codes "a#12" ∷ []
unfolding digits kept
marked_lines = refl

-- one after the other, and two that overlap; the third and fourth are told apart; a boot cuts the fourth, whose logout is no record
abbrev one_tty : List Row
one_tty =
    row (pos 1) (pos 3) (codes "ann") (Int (pos 10)) (Int (pos 20)) (codes "pts/0") []
    ∷ row (pos 2) (pos 3) (codes "bob") (Int (pos 20)) (Int (pos 40)) (codes "pts/0") []
    ∷ row (pos 3) (pos 3) (codes "cat") (Int (pos 30)) (Int (pos 50)) (codes "pts/0") []
    ∷ row (pos 4) (pos 3) (codes "dan") (Int (pos 45)) (Int (pos 65)) (codes "pts/0") []
    ∷ row (pos 5) (pos 1) (codes "reboot") (Int (pos 60)) Null (codes "~") []
    ∷ row (pos 6) (pos 3) (codes "eve") (Int (pos 70)) (Int (pos 80)) (codes "pts/0") []
    ∷ row (pos 7) (pos 3) (codes "fay") (Int (pos 75)) (Int (pos 90)) (codes "pts/0#1") []
    ∷ []

abbrev in_order : List Moment
in_order =
    moment 0 Login (pos 10) ∷ moment 0 Logout (pos 20) ∷ moment 1 Login (pos 20) ∷ moment 2 Login (pos 30) ∷ moment 1 Logout (pos 40) ∷ moment 3 Login (pos 45)
    ∷ moment 2 Logout (pos 50) ∷ moment 4 Boot (pos 60) ∷ moment 3 Logout (pos 65) ∷ moment 5 Login (pos 70) ∷ moment 6 Login (pos 75) ∷ moment 5 Logout (pos 80)
    ∷ moment 6 Logout (pos 90) ∷ []

marks : map (mark_at one_tty in_order) (range_with_len 0 13)
    ≡ Some false ∷ Some false ∷ Some false ∷ Some true ∷ Some false ∷ Some true ∷ Some true ∷ Some false ∷ None ∷ Some false ∷ Some true ∷ Some false ∷ Some true ∷ []
unfolding field kept open_logins
marks = refl

lines : map (λ (r : LoginRecord). r.line) (records_of one_tty in_order 13)
    ≡ map (padded 32) (codes "pts/0" ∷ codes "pts/0" ∷ codes "pts/0" ∷ codes "pts/0#3" ∷ codes "pts/0" ∷ codes "pts/0#4" ∷ codes "pts/0#3" ∷ codes "~" ∷ codes "pts/0" ∷ codes "pts/0#1#7" ∷ codes "pts/0" ∷ codes "pts/0#1#7" ∷ [])
unfolding digits field kept open_logins
lines = refl

abbrev pub made : ℕ → List ℕ → List ℕ → List ℕ → ℤ → LoginRecord
made kind line user remote time = record { kind = kind; line = padded 32 line; user = padded 32 user; remote = padded 256 remote; time = time }

-- ssh is free again after the shutdown
records : records_of day (moment 0 Boot (pos 1_000_000_000) ∷ moment 1 Login (pos 1_100_900_000) ∷ moment 2 Login (pos 1_200_000_000) ∷ moment 1 Logout (pos 1_700_100_000)
    ∷ moment 0 Down (pos 8_000_000_000) ∷ moment 5 Login (pos 9_100_000_000) ∷ moment 5 LogoutAtOnce (pos 9_100_000_000) ∷ []) 7
    ≡ made 2 (codes "~") (codes "reboot") (codes "6.12") (pos 1_000) ∷ made 7 (codes "tty1") (codes "ann") [] (pos 1_100) ∷ made 7 (codes "ssh") (codes "bob") (codes "192.0.2.7") (pos 1_200)
    ∷ made 8 (codes "tty1") [] [] (pos 1_700) ∷ made 1 (codes "~") (codes "shutdown") (codes "6.12") (pos 8_000) ∷ made 7 (codes "ssh") (codes "cat") [] (pos 9_100)
    ∷ made 8 (codes "ssh") [] [] (pos 9_100) ∷ []
unfolding digits field kept open_logins
records = refl

-- the bytes of a record, and one before 1970, are those of the layout
size : length (bytes_of (made 7 (codes "tty1#2") (codes "ann") (codes "192.0.2.7") (pos 1_100))) ≡ 384
unfolding bytes_of
size = refl

decoded : login_of (bytes_of (made 7 (codes "tty1#2") (codes "ann") (codes "192.0.2.7") (pos 1_100))) ≡ Some (made 7 (codes "tty1#2") (codes "ann") (codes "192.0.2.7") (pos 1_100))
unfolding bytes_of text_of u16_at u32_at i16_at i32_at
decoded = refl

early : login_of (bytes_of (made 2 (codes "~") (codes "reboot") [] (negsuc 0))) ≡ Some (made 2 (codes "~") (codes "reboot") [] (negsuc 0))
unfolding bytes_of text_of u16_at u32_at i16_at i32_at
early = refl
