-- The text of a report of stays, as last(1) prints it.
use Rattle.std.specs.Prelude.{ℕ, if◌then◌else◌, List, ◌++◌, flat_map, ℤ, codes, Option, Some, None}
use Rattle.tally_sessions.specs.declared.entry.End.{End}
use Rattle.tally_sessions.specs.declared.entry.End.TheVariants.{Logout, Next, Down, Crash, Still}
use Rattle.tally_sessions.specs.declared.entry.Stay.{Stay}
use Rattle.tally_print.specs.Text.{beginning, shown, left, moment, span}

-- who was logged in, or the word for a boot
abbrev pub user_column : Stay → List ℕ
user_column stay = if stay.is_boot then codes "reboot" else shown stay.user

-- on which line, or the words for a boot
abbrev pub line_column : Stay → List ℕ
line_column stay = if stay.is_boot then codes "system boot" else shown stay.line

-- the words for a stay that nothing has ended
abbrev pub still_words : Stay → List ℕ
still_words stay = if stay.is_boot then codes "still running" else codes "still logged in"

-- that a stay goes on, and its span where it was counted up to a moment
abbrev pub still_ending : Stay → Option ℤ → List ℕ
still_ending stay None = codes "   " ++ still_words stay
still_ending stay (Some until) = codes " - " ++ left (still_words stay) 19 ++ codes " " ++ span stay.length

-- when or how the stay ended, or that it goes on
unfoldable pub ending : End → Stay → (ℤ → ℤ) → Option ℤ → List ℕ
ending Logout stay clock until = codes " - " ++ moment stay.end_time clock ++ codes " " ++ span stay.length
ending Next stay clock until = codes " - " ++ moment stay.end_time clock ++ codes " " ++ span stay.length
ending Down stay clock until = codes " - " ++ left (codes "down") 19 ++ codes " " ++ span stay.length
ending Crash stay clock until = codes " - " ++ left (codes "crash") 19 ++ codes " " ++ span stay.length
ending Still stay clock until = still_ending stay until

-- the line of a stay, with moments by a clock: user, line, remote, recorded start and ending
unfoldable pub stay_line : (ℤ → ℤ) → Option ℤ → Stay → List ℕ
stay_line clock until stay =
    left (user_column stay) 8 ++ codes " " ++ left (line_column stay) 12 ++ codes " "
    ++ left (shown stay.remote) 16 ++ codes " " ++ moment stay.start clock
    ++ ending stay.end stay clock until ++ codes "\n"

-- a line for each stay, and from when on the host has records, with moments by a clock
abbrev pub last_text : List Stay → Option ℤ → (ℤ → ℤ) → Option ℤ → List ℕ
last_text rows first clock until = flat_map (stay_line clock until) rows ++ beginning (codes "wtmp") first clock
