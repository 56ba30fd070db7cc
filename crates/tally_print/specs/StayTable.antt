-- Stays as a table: the file, who and where, times in seconds since 1970 and as moments, whole seconds.
use Rattle.std.specs.Prelude.{ℕ, ◌+◌, ◌/◌, ◌%◌, if◌then◌else◌, List, [], ◌∷◌, ◌++◌, ℤ, pos, int_le, unsigned_abs, codes, decimal}
use Rattle.std.specs.Fmt.{signed_decimal}
use Rattle.tally_clock.specs.Days.{day_of}
use Rattle.tally_sessions.specs.declared.entry.End.{End}
use Rattle.tally_sessions.specs.declared.entry.End.TheVariants.{Logout, Next, Down, Crash, Still}
use Rattle.tally_sessions.specs.declared.entry.Stay.{Stay}
use Rattle.tally_records.specs.declared.period.Period.{Period}
use Rattle.tally_sessions.specs.Choice.{seconds_within}
use Rattle.tally_print.specs.Tables.{Row}
use Rattle.tally_print.specs.Text.{date, second_of_day, shown, time_of_day, two}

-- `+hh:mm` or `-hh:mm`, from seconds east of UTC, of which those beyond the last whole minute are cut off
unfoldable pub zone : ℤ → List ℕ
zone offset =
    (if int_le (pos 0) offset then codes "+" else codes "-")
    ++ two (unsigned_abs offset / 3600) ++ codes ":" ++ two (unsigned_abs offset / 60 % 60)

-- `YYYY-MM-DDThh:mm:ss+hh:mm`, a moment by a clock as ISO 8601 has it, with the offset that held at that second
unfoldable pub iso_moment : ℤ → (ℤ → ℤ) → List ℕ
iso_moment time clock =
    date (day_of clock time) ++ codes "T" ++ time_of_day (second_of_day clock time) ++ zone (clock time)

-- the word for what ended a stay
abbrev pub end_word : End → List ℕ
end_word Logout = codes "logout"
end_word Next = codes "next"
end_word Down = codes "down"
end_word Crash = codes "crash"
end_word Still = codes "still"

-- who was logged in, or the word for a boot
abbrev pub user_field : Stay → List ℕ
user_field stay = if stay.is_boot then codes "reboot" else shown stay.user

-- on which line, which a boot has none of
abbrev pub line_field : Stay → List ℕ
line_field stay = if stay.is_boot then [] else shown stay.line

-- the names of the columns
unfoldable pub stay_header : Row
stay_header =
    codes "file" ∷ codes "user" ∷ codes "line" ∷ codes "remote" ∷ codes "start" ∷ codes "start_at" ∷ codes "begin"
    ∷ codes "end" ∷ codes "end_time" ∷ codes "end_at" ∷ codes "seconds" ∷ []

-- the file, counted from 1, and who was logged in where
unfoldable pub who_fields : Stay → Row
who_fields stay = decimal (stay.host + 1) ∷ user_field stay ∷ line_field stay ∷ shown stay.remote ∷ []

-- the recorded start, and the start by the clock of the end
unfoldable pub start_fields : (ℤ → ℤ) → Stay → Row
start_fields clock stay =
    signed_decimal stay.start ∷ iso_moment stay.start clock ∷ signed_decimal stay.begin ∷ []

-- what ended the stay, and when
unfoldable pub end_fields : (ℤ → ℤ) → Stay → Row
end_fields clock stay =
    end_word stay.end ∷ signed_decimal stay.end_time ∷ iso_moment stay.end_time clock ∷ []

-- the fields of a stay under these names, with moments by a clock
unfoldable pub stay_fields : (ℤ → ℤ) → Stay → Row
stay_fields clock stay =
    who_fields stay ++ start_fields clock stay ++ end_fields clock stay ++ decimal stay.length ∷ []

-- the names of the columns, with one for the seconds in a period
unfoldable pub part_header : Row
part_header = stay_header ++ codes "within" ∷ []

-- the fields of a stay, and the seconds that a period has of it
unfoldable pub part_fields : (ℤ → ℤ) → Period → Stay → Row
part_fields clock period stay = stay_fields clock stay ++ decimal (seconds_within period stay) ∷ []
