-- The pieces of printed lines.
use Rattle.std.specs.Prelude.{ℕ, ◌+◌, ◌-◌, ◌/◌, ◌%◌, not, ◌&&◌, ◌==◌, nat_le, nat_lt, if◌then◌else◌, List, [], ◌∷◌, ◌++◌, map, length, replicate, take_while, ℤ, pos, ◌+ℤ◌, unsigned_abs, codes, decimal, Option, Some, None}
use Rattle.std.specs.Int.{int_rem_euclid}
use Rattle.tally_clock.specs.Days.{day_of}
use Rattle.tally_print.specs.Civil.{year_of, month_of, day_of_month}

-- the text of a field ends at its first NUL or fills the field
abbrev pub field_text : List ℕ → List ℕ
field_text field = take_while (λ b. not (b == 0)) field

-- a byte as it is printed: `?` stands for one outside 0x20 .. 0x7E
abbrev pub shown_byte : ℕ → ℕ
shown_byte b = if nat_le 0x20 b && nat_le b 0x7E then b else 63

-- the text of a field, as it is printed
abbrev pub shown : List ℕ → List ℕ
shown field = map shown_byte (field_text field)

-- so many blanks
abbrev pub blanks : ℕ → List ℕ
blanks n = replicate n 32

-- the text, filled with blanks on the right to n bytes; a longer one stands whole
abbrev pub left : List ℕ → ℕ → List ℕ
left text n = text ++ blanks (n - length text)

-- the text, filled with blanks on the left to n bytes; a longer one stands whole
abbrev pub right : List ℕ → ℕ → List ℕ
right text n = blanks (n - length text) ++ text

-- a number below 100 in two digits
abbrev pub two : ℕ → List ℕ
two n = (48 + n / 10) ∷ (48 + n % 10) ∷ []

-- a number of hundredths as a decimal fraction
abbrev pub hundredths : ℕ → List ℕ
hundredths q = decimal (q / 100) ++ codes "." ++ two (q % 100)

-- seconds as hours, rounded to hundredths
abbrev pub hours : ℕ → List ℕ
hours seconds = hundredths ((seconds + 18) / 36)

-- ticks (hundredths of a second) as minutes, rounded to hundredths
abbrev pub minutes : ℕ → List ℕ
minutes ticks = hundredths ((ticks + 30) / 60)

-- `YYYY-MM-DD`
unfoldable pub date : ℤ → List ℕ
date day =
    two (year_of day / 100) ++ two (year_of day % 100) ++ codes "-" ++ two (month_of day)
    ++ codes "-" ++ two (day_of_month day)

-- `hh:mm:ss`, from the seconds since midnight
unfoldable pub time_of_day : ℕ → List ℕ
time_of_day r = two (r / 3600) ++ codes ":" ++ two (r / 60 % 60) ++ codes ":" ++ two (r % 60)

-- the time of day that a clock shows, in seconds; a clock is how far it is ahead of UTC at each second
abbrev pub second_of_day : (ℤ → ℤ) → ℤ → ℕ
second_of_day clock time = unsigned_abs (int_rem_euclid (time +ℤ clock time) (pos 86_400))

-- the date and time of a moment, by a clock
unfoldable pub moment : ℤ → (ℤ → ℤ) → List ℕ
moment time clock = date (day_of clock time) ++ codes " " ++ time_of_day (second_of_day clock time)

-- `(hh:mm)`, and with whole days `(d+hh:mm)`
unfoldable pub span : ℕ → List ℕ
span s =
    codes "(" ++ (if nat_lt s 86_400 then [] else decimal (s / 86_400) ++ codes "+")
    ++ two (s / 3600 % 24) ++ codes ":" ++ two (s / 60 % 60) ++ codes ")"

-- from when on a host has records, whose file is so named
unfoldable pub beginning : List ℕ → Option ℤ → (ℤ → ℤ) → List ℕ
beginning file None clock = file ++ codes " has no records\n"
beginning file (Some first) clock = codes "\n" ++ file ++ codes " begins " ++ moment first clock ++ codes "\n"
