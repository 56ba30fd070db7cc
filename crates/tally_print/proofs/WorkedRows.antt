-- Worked examples, computed by the definitions.
use Rattle.std.proofs.Common.{◌≡◌, [], ◌∷◌, ◌++◌, map, Some, None, refl, ℤ, pos, negsuc, if◌then◌else◌, int_le}
use Rattle.std.specs.Fmt.{digits}
use Rattle.std.specs.Prelude.{codes}
use Rattle.jiff_core.specs.Calendar.{day_count, days_from_civil, days_of_months, days_of_years}
use Rattle.tally_print.specs.Civil.{day_of_month, month_of, year_of}
use Rattle.tally_print.specs.ConnectText.{connect_line}
use Rattle.tally_print.specs.Text.{date, shown, shown_byte, left, right, hours, minutes, moment, span, time_of_day}
use Rattle.tally_print.specs.UsageText.{columns}
use Rattle.csv.specs.Writing.{escaped, fields_text, is_blank}
use Rattle.tally_print.specs.Sections.{sections}
use Rattle.tally_print.specs.StayTable.{iso_moment, zone}
use Rattle.tally_print.specs.Tables.{csv_text}

-- hours are rounded at half a hundredth
rounded_hours : map hours (17 ∷ 18 ∷ 53 ∷ 54 ∷ 3600 ∷ []) ≡ codes "0.00" ∷ codes "0.01" ∷ codes "0.01" ∷ codes "0.02" ∷ codes "1.00" ∷ []
unfolding digits
rounded_hours = refl

-- so are minutes
rounded_minutes : map minutes (29 ∷ 30 ∷ 89 ∷ 90 ∷ 6000 ∷ []) ≡ codes "0.00" ∷ codes "0.01" ∷ codes "0.01" ∷ codes "0.02" ∷ codes "1.00" ∷ []
unfolding digits
rounded_minutes = refl

-- a span is cut to whole minutes, and has days from the first on
spans : map span (59 ∷ 60 ∷ 3599 ∷ 86399 ∷ 86400 ∷ 90061 ∷ []) ≡ codes "(00:00)" ∷ codes "(00:01)" ∷ codes "(00:59)" ∷ codes "(23:59)" ∷ codes "(1+00:00)" ∷ codes "(1+01:01)" ∷ []
unfolding span digits
spans = refl

-- only bytes from a blank to a tilde are shown
shown_bytes : map shown_byte (0x1F ∷ 0x20 ∷ 0x7E ∷ 0x7F ∷ 0x80 ∷ 0xFF ∷ []) ≡ 63 ∷ 32 ∷ 126 ∷ 63 ∷ 63 ∷ 63 ∷ []
shown_bytes = refl

-- a text ends at its first zero
shown_text : shown (97 ∷ 27 ∷ 98 ∷ 0 ∷ 99 ∷ []) ≡ codes "a?b"
shown_text = refl

-- a longer text stands whole
filled : left (codes "ab") 4 ∷ right (codes "ab") 4 ∷ left (codes "abcde") 4 ∷ right (codes "abcde") 4 ∷ [] ≡ codes "ab  " ∷ codes "  ab" ∷ codes "abcde" ∷ codes "abcde" ∷ []
filled = refl

-- the time of a day
times_of_day : map time_of_day (0 ∷ 3661 ∷ 86399 ∷ []) ≡ codes "00:00:00" ∷ codes "01:01:01" ∷ codes "23:59:59" ∷ []
unfolding time_of_day
times_of_day = refl

-- the line of a user, and that of all
connect_lines : connect_line (record { day = None; user = Some (codes "ann"); seconds = 3600 }) ∷ connect_line (record { day = None; user = None; seconds = 1800 }) ∷ [] ≡ codes "ann                          1.00\n" ∷ codes "total                        0.50\n" ∷ []
unfolding connect_line digits
connect_lines = refl

-- the columns of three calls, and of none
usage_columns : columns (record { count = 3; real = 720; cpu = 300; io = 1006; mem_cpu = 114000 }) ∷ columns (record { count = 0; real = 0; cpu = 0; io = 0; mem_cpu = 0 }) ∷ [] ≡ codes "       3         0.12re         0.05cp        335avio        380k" ∷ codes "       0         0.00re         0.00cp          0avio          0k" ∷ []
unfolding columns digits
usage_columns = refl

-- offsets as moments of tables have them: seconds beyond whole minutes are cut off, and the sign stays
zones : map zone (pos 0 ∷ pos 3600 ∷ negsuc 19_799 ∷ negsuc 2669 ∷ negsuc 29 ∷ pos 179_939 ∷ []) ≡ codes "+00:00" ∷ codes "+01:00" ∷ codes "-05:30" ∷ codes "-00:44" ∷ codes "-00:00" ∷ codes "+49:58" ∷ []
unfolding zone
zones = refl

-- the date of a day, its year and month first
berlin_year : year_of (pos 20_541) ≡ 2026
unfolding year_of days_from_civil day_count days_of_years days_of_months
berlin_year = refl

berlin_month : month_of (pos 20_541) ≡ 3
unfolding month_of days_from_civil day_count days_of_years days_of_months
berlin_month = rw berlin_year refl

berlin_day : date (pos 20_541) ≡ codes "2026-03-29"
unfolding date day_of_month days_from_civil day_count days_of_years days_of_months
berlin_day = rw (berlin_year, berlin_month) refl

-- Berlin in March 2026: an hour ahead of UTC, and two hours from 2026-03-29 01:00:00 UTC on
abbrev berlin : ℤ → ℤ
berlin time = if int_le (pos 1_774_746_000) time then pos 7200 else pos 3600

-- where clocks go forward, 03:00:00 follows 01:59:59
berlin_moments : map (λ time. moment time berlin) (pos 1_774_745_999 ∷ pos 1_774_746_000 ∷ []) ≡ codes "2026-03-29 01:59:59" ∷ codes "2026-03-29 03:00:00" ∷ []
unfolding moment time_of_day
berlin_moments = rw berlin_day refl

berlin_iso : map (λ time. iso_moment time berlin) (pos 1_774_745_999 ∷ pos 1_774_746_000 ∷ []) ≡ codes "2026-03-29T01:59:59+01:00" ∷ codes "2026-03-29T03:00:00+02:00" ∷ []
unfolding iso_moment zone time_of_day
berlin_iso = rw berlin_day refl

-- a clock 44 minutes and 30 seconds behind UTC, as Monrovia's was up to 1972
behind : moment (pos 1_774_746_000) (λ time. negsuc 2669) ∷ iso_moment (pos 1_774_746_000) (λ time. negsuc 2669) ∷ [] ≡ codes "2026-03-29 00:15:30" ∷ codes "2026-03-29T00:15:30-00:44" ∷ []
unfolding moment iso_moment zone time_of_day
behind = rw berlin_day refl

-- a comma and quotes are quoted, a quote twice; an empty field is empty
quoted_row : csv_text ((codes "a,b" ∷ (34 ∷ []) ∷ [] ∷ codes "x y" ∷ []) ∷ []) ≡ 34 ∷ (codes "a,b" ++ 34 ∷ 44 ∷ 34 ∷ 34 ∷ 34 ∷ 34 ∷ 44 ∷ 44 ∷ (codes "x y" ++ 10 ∷ []))
unfolding escaped fields_text is_blank
quoted_row = refl

-- an empty line stands between two sections, and around none
gaps : sections (codes "a\n" ∷ codes "b\n" ∷ codes "c\n" ∷ []) ∷ sections (codes "a\n" ∷ []) ∷ sections [] ∷ [] ≡ codes "a\n\nb\n\nc\n" ∷ codes "a\n" ∷ [] ∷ []
gaps = refl

-- the day of the first second that a record can have, and that of the last
first_date : date (negsuc 24_855) ≡ codes "1901-12-13"
unfolding date year_of month_of day_of_month days_from_civil day_count days_of_years days_of_months
first_date = refl

last_date : date (pos 24_855) ≡ codes "2038-01-19"
unfolding date year_of month_of day_of_month days_from_civil day_count days_of_years days_of_months
last_date = refl

-- the day before 1970, and a leap day of a century's year
early_date : date (negsuc 0) ≡ codes "1969-12-31"
unfolding date year_of month_of day_of_month days_from_civil day_count days_of_years days_of_months
early_date = refl

leap_date : date (pos 11_016) ≡ codes "2000-02-29"
unfolding date year_of month_of day_of_month days_from_civil day_count days_of_years days_of_months
leap_date = refl

-- a leap year's last day, and the first after it
years : map year_of (pos 20_088 ∷ pos 20_089 ∷ []) ≡ 2024 ∷ 2025 ∷ []
unfolding year_of days_from_civil day_count days_of_years days_of_months
years = refl

-- the last second before 1970, and an hour before midnight by a clock that is behind
early_moments : moment (negsuc 0) (λ time. pos 0) ∷ moment (pos 0) (λ time. negsuc 3599) ∷ [] ≡ codes "1969-12-31 23:59:59" ∷ codes "1969-12-31 23:00:00" ∷ []
unfolding moment time_of_day
early_moments = rw early_date refl
