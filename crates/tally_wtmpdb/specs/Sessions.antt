-- The sessions that rows mean, and the times that the host was up, of the moments of the rows alone.
use Rattle.std.specs.Prelude.{◌≡◌, ℕ, ◌<◌, Bool, true, false, not, List, [], ◌∷◌, filter, find, length, slice_index_or, Option, Some, None, unwrap_or, codes, ℤ, pos, FitsSigned}
use Rattle.std.specs.Int.{w64}
use Rattle.std.specs.List.{cons_option}
use Rattle.sqlite_value.specs.Order.{Row}
use Rattle.tally_clock.specs.Days.{seconds_between}
use Rattle.tally_sessions.specs.Stays.{last_time}
use Rattle.tally_sessions.specs.declared.entry.End.{End}
use Rattle.tally_sessions.specs.declared.entry.End.TheVariants as ends
use Rattle.tally_sessions.specs.declared.entry.Stay.{Stay}
use Rattle.tally_wtmpdb.specs.Fields.{field}
use Rattle.tally_wtmpdb.specs.Lines.{ends as ends_session, is_halt, is_marked}
use Rattle.tally_wtmpdb.specs.Made.{line_of, records_of}
use Rattle.tally_wtmpdb.specs.Rows.{id_of, remote_of, second_of, user_of}
use Rattle.tally_wtmpdb.specs.declared.moment.Moment.{Moment}
use Rattle.tally_wtmpdb.specs.declared.moment.What.{What}
use Rattle.tally_wtmpdb.specs.declared.moment.What.TheVariants.{Logout, Down, Boot, Login, LogoutAtOnce}

-- the rows have numbers of 64 bits, and no two the same, as those of a table have
pub record HaveIds (rows : List Row) : Type 0 where
  pub fit : (i : ℕ) → i < length rows → FitsSigned w64 (id_of (slice_index_or rows i []))
  pub differ : (i j : ℕ) → i < length rows → j < length rows → id_of (slice_index_or rows i []) ≡ id_of (slice_index_or rows j []) → i ≡ j

-- the whole second that a moment is in
abbrev pub second_at : Moment → ℤ
second_at m = unwrap_or (second_of m.micros) (pos 0)

-- what ends what a moment of the row at a place began: a session ends with its own logout, a boot or a shutdown, and what was booted
-- with a boot or a shutdown
abbrev pub ends_begun : What → ℕ → Moment → Bool
ends_begun Login place m = ends_session place m
ends_begun Boot place m = is_halt m.what
ends_begun Logout place m = false
ends_begun Down place m = false
ends_begun LogoutAtOnce place m = false

-- where it ends: at the first later moment that ends it
abbrev pub end_among : Moment → (later : List Moment) → Option Moment
end_among m later = find (ends_begun m.what m.place) later

-- how a moment ends it
abbrev pub end_by : What → End
end_by Logout = ends.Logout
end_by LogoutAtOnce = ends.Logout
end_by Down = ends.Down
end_by Boot = ends.Crash
end_by Login = ends.Still

abbrev pub end_how : Option Moment → End
end_how None = ends.Still
end_how (Some m) = end_by m.what

-- the second at which it ends; where nothing has ended it, the moment that is given, or else the last second
abbrev pub end_second : Option Moment → ℤ → Option ℤ → ℤ
end_second None last until = unwrap_or until last
end_second (Some m) last until = second_at m

-- the second of the last record that is made
abbrev pub last_second : List Row → List Moment → ℤ
last_second rows ordered = last_time (pos 0) (records_of rows ordered (length ordered))

-- a session, or a time that the host was up, from one second to another, by a clock that was not changed
abbrev pub lasting : ℕ → Bool → (user line remote : List ℕ) → ℤ → End → ℤ → Stay
lasting host is_boot user line remote start end end_time = record {
  host = host;
  is_boot = is_boot;
  user = user;
  line = line;
  remote = remote;
  start = start;
  begin = start;
  end = end;
  end_time = end_time;
  length = seconds_between start end_time;
}

-- what a moment of a row begins: a login the session of its user on its line, a boot a time that the host is up
abbrev pub stay_if : ℕ → Bool → Row → What → ℤ → End → ℤ → Option Stay
stay_if host marked row Login start end end_time =
    Some (lasting host false (field 32 (user_of row)) (field 32 (line_of marked row)) (field 256 (remote_of row)) start end end_time)
stay_if host marked row Boot start end end_time =
    Some (lasting host true (field 32 (codes "reboot")) (field 32 (codes "~")) (field 256 (remote_of row)) start end end_time)
stay_if host marked row Logout start end end_time = None
stay_if host marked row Down start end end_time = None
stay_if host marked row LogoutAtOnce start end end_time = None

-- the same of a moment, with the moments after it
abbrev pub stay_at : ℕ → List Row → (ordered : List Moment) → Option ℤ → Moment → (later : List Moment) → Option Stay
stay_at host rows ordered until m later =
    stay_if host (is_marked rows ordered m.place) (slice_index_or rows m.place []) m.what (second_at m) (end_how (end_among m later))
    (end_second (end_among m later) (last_second rows ordered) until)

-- what these moments begin, in their order
abbrev pub stays_among : ℕ → List Row → (ordered : List Moment) → Option ℤ → List Moment → List Stay
stays_among host rows ordered until [] = []
stays_among host rows ordered until (m ∷ later) = cons_option (stay_at host rows ordered until m later) (stays_among host rows ordered until later)

-- the sessions of the rows and the times that the host was up, in the order of their logins and boots
abbrev pub stays_of_rows : ℕ → List Row → (ordered : List Moment) → Option ℤ → List Stay
stays_of_rows host rows ordered until = stays_among host rows ordered until ordered

-- the sessions alone
abbrev pub sessions_of_rows : ℕ → List Row → (ordered : List Moment) → Option ℤ → List Stay
sessions_of_rows host rows ordered until = filter (λ s. not s.is_boot) (stays_of_rows host rows ordered until)
