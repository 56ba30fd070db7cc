-- Which sessions are open, and which of them have a line of their own beside others on the same TTY.
use Rattle.std.specs.Prelude.{ℕ, Bool, true, false, not, ◌&&◌, ◌||◌, ◌==◌, bytes_eq, if◌then◌else◌, List, [], ◌∷◌, take, Option, Some, None, slice_get, slice_index_or}
use Rattle.std.specs.List.{before_first, list_any}
use Rattle.sqlite_value.specs.Order.{Row}
use Rattle.tally_wtmpdb.specs.Fields.{field}
use Rattle.tally_wtmpdb.specs.Rows.{tty_of}
use Rattle.tally_wtmpdb.specs.declared.moment.Moment.{Moment}
use Rattle.tally_wtmpdb.specs.declared.moment.What.{What}
use Rattle.tally_wtmpdb.specs.declared.moment.What.TheVariants.{Logout, Down, Boot, Login, LogoutAtOnce}

abbrev pub is_login : What → Bool
is_login Logout = false
is_login Down = false
is_login Boot = false
is_login Login = true
is_login LogoutAtOnce = false

-- what ends the sessions of all rows
abbrev pub is_halt : What → Bool
is_halt Logout = false
is_halt Down = true
is_halt Boot = true
is_halt Login = false
is_halt LogoutAtOnce = false

-- what ends the session of its own row
abbrev pub is_logout : What → Bool
is_logout Logout = true
is_logout Down = false
is_logout Boot = false
is_logout Login = false
is_logout LogoutAtOnce = true

-- a moment is of the row at a place
abbrev pub is_of_row : ℕ → Moment → Bool
is_of_row place m = m.place == place

-- a moment begins the session of the row at a place
abbrev pub begins : ℕ → Moment → Bool
begins place m = is_login m.what && is_of_row place m

-- a moment ends it: a boot, a shutdown, or its own logout
abbrev pub ends : ℕ → Moment → Bool
ends place m = is_halt m.what || (is_logout m.what && is_of_row place m)

-- the logins of the sessions that are open after these moments: no later one of these ends them
unfoldable pub open_logins : List Moment → List Moment
open_logins [] = []
open_logins (m ∷ later) = if is_login m.what && not (list_any (ends m.place) later) then m ∷ open_logins later else open_logins later

-- the session of the row at a place is open after these moments
abbrev pub is_open : ℕ → List Moment → Bool
is_open place moments = list_any (is_of_row place) (open_logins moments)

-- the TTY of the row at a place, as `ut_line` keeps it
abbrev pub text_of : List Row → ℕ → List ℕ
text_of rows place = field 32 (tty_of (slice_index_or rows place []))

-- a moment is of a row with this text
abbrev pub is_on : List Row → List ℕ → Moment → Bool
is_on rows text m = bytes_eq (text_of rows m.place) text

-- after these moments a session on this text is open
abbrev pub is_taken : List Row → List Moment → List ℕ → Bool
is_taken rows moments text = list_any (is_on rows text) (open_logins moments)

-- a text has a `#`, as lines with a mark have
abbrev pub has_mark : List ℕ → Bool
has_mark text = list_any (λ b. b == 35) text

-- the line of a session has a mark: at its login another session on its text is open, or the text could be a line with a mark
abbrev pub is_marked : List Row → List Moment → ℕ → Bool
is_marked rows ordered place = has_mark (text_of rows place) || is_taken rows (before_first (begins place) ordered) (text_of rows place)

-- whether the record of a moment of the row at a place has a line with a mark; a logout has a record where it ends a session
abbrev pub mark_after : List Row → (ordered before : List Moment) → ℕ → What → Option Bool
mark_after rows ordered before place Login = Some (is_marked rows ordered place)
mark_after rows ordered before place Logout = if is_open place before then Some (is_marked rows ordered place) else None
mark_after rows ordered before place LogoutAtOnce = if is_open place before then Some (is_marked rows ordered place) else None
mark_after rows ordered before place Boot = Some false
mark_after rows ordered before place Down = Some false

-- the same of the i-th of the ordered moments
abbrev pub mark_if : List Row → (ordered before : List Moment) → Option Moment → Option Bool
mark_if rows ordered before None = None
mark_if rows ordered before (Some m) = mark_after rows ordered before m.place m.what

abbrev pub mark_at : List Row → List Moment → ℕ → Option Bool
mark_at rows ordered i = mark_if rows ordered (take i ordered) (slice_get ordered i)
