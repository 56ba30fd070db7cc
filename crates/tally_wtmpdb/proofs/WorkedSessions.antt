-- Worked values: what rows mean as sessions, computed by the definitions from moments that are laid out by hand.
use Rattle.std.proofs.Common.{◌≡◌, ℕ, true, false, Bool, List, [], ◌∷◌, ◌++◌, filter, flat_map, map, Some, None, refl}
use Rattle.std.specs.Fmt.{digits}
use Rattle.std.specs.Prelude.{ℤ, pos, codes, sum_by}
use Rattle.sqlite_value.specs.Order.{Row}
use Rattle.sqlite_value.specs.declared.value.Value.TheVariants.{Null, Int}
use Rattle.tally_records.specs.Text.{i16_at, i32_at, padded, text_of, u16_at, u32_at}
use Rattle.tally_sessions.specs.declared.entry.End.{End}
use Rattle.tally_sessions.specs.declared.entry.End.TheVariants as ends
use Rattle.tally_sessions.specs.declared.entry.Stay.{Stay}
use Rattle.tally_wtmpdb.proofs.WorkedLogins.{row}
use Rattle.tally_wtmpdb.specs.Fields.{field, kept}
use Rattle.tally_wtmpdb.specs.Laws.{is_over, micros_between, records_read, spans_among}
use Rattle.tally_wtmpdb.specs.Lines.{open_logins}
use Rattle.tally_wtmpdb.specs.Made.{bytes_of, records_of}
use Rattle.tally_wtmpdb.specs.Moments.{moment}
use Rattle.tally_wtmpdb.specs.Sessions.{last_second, sessions_of_rows, stays_of_rows}
use Rattle.tally_wtmpdb.specs.declared.moment.Moment.{Moment}
use Rattle.tally_wtmpdb.specs.declared.moment.What.TheVariants.{Logout, Down, Boot, Login, LogoutAtOnce}

-- ann and bob overlap on tty1; a shutdown ends cat's session, and a boot without one dan's, whose own logout comes too late; eve's
-- Logout is before her Login; fay's session is open
abbrev week : List Row
week =
    row (pos 1) (pos 3) (codes "ann") (Int (pos 10_000_000)) (Int (pos 40_000_000)) (codes "tty1") []
    ∷ row (pos 2) (pos 3) (codes "bob") (Int (pos 20_900_000)) (Int (pos 30_100_000)) (codes "tty1") (codes "192.0.2.7")
    ∷ row (pos 3) (pos 3) (codes "cat") (Int (pos 25_000_000)) Null (codes "ssh") []
    ∷ row (pos 4) (pos 1) (codes "reboot") (Int (pos 5_000_000)) (Int (pos 50_000_000)) (codes "~") (codes "6.12")
    ∷ row (pos 5) (pos 3) (codes "dan") (Int (pos 55_000_000)) (Int (pos 70_000_000)) (codes "ssh") []
    ∷ row (pos 6) (pos 1) (codes "reboot") (Int (pos 60_000_000)) Null (codes "~") (codes "6.13")
    ∷ row (pos 7) (pos 3) (codes "eve") (Int (pos 80_000_000)) (Int (pos 75_000_000)) (codes "tty2") []
    ∷ row (pos 8) (pos 3) (codes "fay") (Int (pos 90_000_000)) Null (codes "ssh") []
    ∷ row (pos 9) (pos 3) (codes "gil") (Int (pos 92_500_000)) (Int (pos 95_000_000)) (codes "tty3") []
    ∷ []

abbrev in_order : List Moment
in_order =
    moment 3 Boot (pos 5_000_000) ∷ moment 0 Login (pos 10_000_000) ∷ moment 1 Login (pos 20_900_000) ∷ moment 2 Login (pos 25_000_000) ∷ moment 1 Logout (pos 30_100_000)
    ∷ moment 0 Logout (pos 40_000_000) ∷ moment 3 Down (pos 50_000_000) ∷ moment 4 Login (pos 55_000_000) ∷ moment 5 Boot (pos 60_000_000) ∷ moment 4 Logout (pos 70_000_000)
    ∷ moment 6 Login (pos 80_000_000) ∷ moment 6 LogoutAtOnce (pos 80_000_000) ∷ moment 7 Login (pos 90_000_000) ∷ moment 8 Login (pos 92_500_000) ∷ moment 8 Logout (pos 95_000_000)
    ∷ []

-- whose it is, from when to when, how it ends, and its seconds
abbrev shown : Stay → List ℕ × ℤ × ℤ × End × ℕ
shown s = (s.user, s.begin, s.end_time, s.end, s.length)

sessions : map shown (sessions_of_rows 0 week in_order None)
    ≡ (padded 32 (codes "ann"), pos 10, pos 40, ends.Logout, 30) ∷ (padded 32 (codes "bob"), pos 20, pos 30, ends.Logout, 10) ∷ (padded 32 (codes "cat"), pos 25, pos 50, ends.Down, 25)
    ∷ (padded 32 (codes "dan"), pos 55, pos 60, ends.Crash, 5) ∷ (padded 32 (codes "eve"), pos 80, pos 80, ends.Logout, 0) ∷ (padded 32 (codes "fay"), pos 90, pos 95, ends.Still, 5)
    ∷ (padded 32 (codes "gil"), pos 92, pos 95, ends.Logout, 3) ∷ []
unfolding digits field kept open_logins
sessions = refl

abbrev ended : Stay → ℤ × ℕ
ended s = (s.end_time, s.length)

-- up to a moment that is given
until_a_moment : map ended (sessions_of_rows 0 week in_order (Some (pos 100)))
    ≡ (pos 40, 30) ∷ (pos 30, 10) ∷ (pos 50, 25) ∷ (pos 60, 5) ∷ (pos 80, 0) ∷ (pos 100, 10) ∷ (pos 95, 3) ∷ []
unfolding digits field kept open_logins
until_a_moment = refl

lines : map (λ (s : Stay). s.line) (sessions_of_rows 0 week in_order None)
    ≡ map (padded 32) (codes "tty1" ∷ codes "tty1#2" ∷ codes "ssh" ∷ codes "ssh" ∷ codes "tty2" ∷ codes "ssh" ∷ codes "tty3" ∷ [])
unfolding digits field kept open_logins
lines = refl

abbrev lasts : Stay → Bool × ℤ × ℤ × End
lasts s = (s.is_boot, s.begin, s.end_time, s.end)

-- the times that the host was up stand among them
up : map lasts (stays_of_rows 7 week in_order None)
    ≡ (true, pos 5, pos 50, ends.Down) ∷ (false, pos 10, pos 40, ends.Logout) ∷ (false, pos 20, pos 30, ends.Logout) ∷ (false, pos 25, pos 50, ends.Down)
    ∷ (false, pos 55, pos 60, ends.Crash) ∷ (true, pos 60, pos 95, ends.Still) ∷ (false, pos 80, pos 80, ends.Logout) ∷ (false, pos 90, pos 95, ends.Still)
    ∷ (false, pos 92, pos 95, ends.Logout) ∷ []
unfolding digits field kept open_logins
up = refl

-- a logout after a boot has no record: where it is all that comes after, the boot is the last
last : last_second week (moment 4 Login (pos 55_000_000) ∷ moment 5 Boot (pos 60_000_000) ∷ moment 4 Logout (pos 70_000_000) ∷ []) ≡ pos 60
unfolding digits field kept open_logins
last = refl

-- from 20.9 to 30.1 it is 9.2 seconds, and 10 whole ones; backward none
micros : micros_between (moment 1 Login (pos 20_900_000)) (moment 1 Logout (pos 30_100_000)) ≡ 9_200_000
micros = refl

no_micros : micros_between (moment 1 Login (pos 30_100_000)) (moment 1 Logout (pos 20_900_000)) ≡ 0
no_micros = refl

abbrev spanned : Moment × Moment → ℕ × ℕ
spanned s = (s.0.place, s.1.place)

abbrev micros_of : Moment × Moment → ℕ
micros_of s = micros_between s.0 s.1

-- six sessions end, after 71.7 seconds, which are 73 whole ones; fay's is open
abbrev seconds_of_stay : Stay → ℕ
seconds_of_stay s = s.length

spans : map spanned (spans_among in_order) ≡ (0, 0) ∷ (1, 1) ∷ (2, 3) ∷ (4, 5) ∷ (6, 6) ∷ (8, 8) ∷ []
spans = refl

ended_micros : sum_by micros_of (spans_among in_order) ≡ 71_700_000
ended_micros = refl

ended_seconds : sum_by seconds_of_stay (filter (λ (s : Stay). is_over s.end) (sessions_of_rows 0 week in_order None)) ≡ 73
unfolding digits field kept open_logins
ended_seconds = refl

-- the bytes of the records of a boot and a login are read as these, and a part of a record after them as none
read_again : records_read (flat_map bytes_of (records_of week in_order 2) ++ 7 ∷ 0 ∷ []) ≡ records_of week in_order 2
unfolding digits bytes_of field kept open_logins text_of u16_at u32_at i16_at i32_at
read_again = refl
