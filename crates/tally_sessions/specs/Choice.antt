-- Which stays a choice has, and what a period has of a session.
use Rattle.std.specs.Prelude.{ℕ, ℤ, Bool, true, false, not, ◌&&◌, if◌then◌else◌, Option, Some, None, is_some, option_map, codes}
use Rattle.std.specs.Int.{int_max, int_min}
use Rattle.tally_records.specs.Choice.{is_among, names_nothing}
use Rattle.tally_records.specs.Period as periods
use Rattle.tally_records.specs.Period.{is_within}
use Rattle.tally_records.specs.Text.{padded}
use Rattle.tally_records.specs.declared.choice.LoginChoice.{LoginChoice}
use Rattle.tally_records.specs.declared.period.Period.{Period}
use Rattle.tally_sessions.specs.declared.entry.End.{End}
use Rattle.tally_sessions.specs.declared.entry.End.TheVariants as ends
use Rattle.tally_sessions.specs.declared.entry.Stay.{Stay}
use Rattle.tally_clock.specs.Days.{seconds_between}
use Rattle.tally_sessions.specs.Stays.{clamped}

-- a stay is of a chosen user: a running time is of the user `reboot`
abbrev pub is_of_user : LoginChoice → Stay → Bool
is_of_user choice s = is_among choice.users (if s.is_boot then padded 32 (codes "reboot") else s.user)

-- a stay is on a chosen line: a running time is on none
abbrev pub is_on_line : LoginChoice → Stay → Bool
is_on_line choice s = if s.is_boot then names_nothing choice.lines else is_among choice.lines s.line

-- nothing has ended the stay
abbrev pub is_open : End → Bool
is_open ends.Still = true
is_open end = false

-- when a stay is over: one that nothing has ended and that is counted up to no moment is not
abbrev pub end_in : Option ℤ → Stay → Option ℤ
end_in until s = if is_open s.end && not (is_some until) then None else Some s.end_time

-- a time is at an end or after it
abbrev pub is_over : Option ℤ → ℤ → Bool
is_over = periods.is_over

-- the later of a time and the beginning of a period
abbrev pub later : Option ℤ → ℤ → ℤ
later None time = time
later (Some from) time = int_max time from

-- some second from a time on, before an end, is in a period; without such a second the time is
abbrev pub has_part : Period → ℤ → Option ℤ → Bool
has_part period begin end =
    if is_over end begin then is_within period begin
    else not (is_over end (later period.from begin)) && not (is_over period.to (later period.from begin))

-- a stay is shown: it is of a chosen user, on a chosen line, and has some part in the period
abbrev pub is_shown : LoginChoice → Option ℤ → Stay → Bool
is_shown choice until s =
    is_of_user choice s && is_on_line choice s && has_part choice.period s.begin (end_in until s)

-- a session is of a chosen user and on a chosen line
abbrev pub is_counted : LoginChoice → Stay → Bool
is_counted choice s = (is_among choice.users s.user && is_among choice.lines s.line) && not s.is_boot

-- the earlier of a time and an end
abbrev pub earlier : Option ℤ → ℤ → ℤ
earlier None time = time
earlier (Some to) time = int_min time to

-- when a period's part of a session begins: at the later of the two beginnings. A moment that no record can have counts
-- as the nearest that one can
abbrev pub begin_in : Period → ℤ → ℤ
begin_in period begin = later (option_map clamped period.from) begin

-- when it ends: at the earlier of the two ends
abbrev pub end_time_in : Period → ℤ → ℤ
end_time_in period end_time = earlier (option_map clamped period.to) end_time

-- the seconds that a period has of a stay
abbrev pub seconds_within : Period → Stay → ℕ
seconds_within period s = seconds_between (begin_in period s.begin) (end_time_in period s.end_time)
