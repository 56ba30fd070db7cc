-- What holds of the login records that are made, whatever the rows are.
use Rattle.std.specs.Prelude.{◌≡◌, ℕ, ◌+◌, ◌*◌, ◌/◌, ◌<◌, ◌≤◌, Bool, true, false, not, ◌&&◌, if◌then◌else◌, bytes_eq, All, List, [], ◌∷◌, filter, filter_map, length, sum_by, take, ℤ, ◌-ℤ◌, pos, unsigned_abs, Option, Some, None, is_some, option_map, FitsSigned}
use Rattle.std.specs.Int.{int_max, w32}
use Rattle.std.specs.List.{cons_option, count_by}
use Rattle.std.specs.Simd.{first_chunks}
use Rattle.sqlite_value.specs.Order.{Row}
use Rattle.tally_clock.specs.Days.{seconds_between}
use Rattle.tally_records.specs.LoginRecord.{login_of}
use Rattle.tally_records.specs.declared.login.LoginRecord.{LoginRecord}
use Rattle.tally_sessions.specs.Hosts.{of_host}
use Rattle.tally_sessions.specs.Totals.{session_seconds, stays_of, user_seconds}
use Rattle.tally_sessions.specs.declared.entry.End.{End}
use Rattle.tally_sessions.specs.declared.entry.End.TheVariants.{Crash, Down, Logout, Next, Still}
use Rattle.tally_sessions.specs.declared.entry.Entry.{Entry}
use Rattle.tally_wtmpdb.specs.Causes.{AreLoginsOf}
use Rattle.tally_wtmpdb.specs.Lines.{is_login, is_marked, is_on, open_logins}
use Rattle.tally_wtmpdb.specs.Made.{bytes_of, login_record, records_of}
use Rattle.tally_wtmpdb.specs.Moments.{AreInOrder, moments}
use Rattle.tally_wtmpdb.specs.Rows.{first_fault, second_of}
use Rattle.tally_wtmpdb.specs.Sessions.{HaveIds, end_among, second_at, sessions_of_rows, stays_of_rows}
use Rattle.tally_wtmpdb.specs.Table.{IsTableOf}
use Rattle.tally_wtmpdb.specs.declared.moment.Moment.{Moment}

-- a session on a text has it as its line
abbrev pub has_line : List Row → List Moment → List ℕ → Moment → Bool
has_line rows ordered text m = is_on rows text m && not (is_marked rows ordered m.place)

-- after each number of moments, one open session at most has a text as its line
abbrev pub LinesAreApart : Type 0
LinesAreApart = (rows : List Row) (ordered : List Moment) → AreInOrder (moments rows) ordered → (text : List ℕ) (n : ℕ) → n ≤ length ordered
    → count_by (has_line rows ordered text) (open_logins (take n ordered)) ≤ 1

-- a record of a known type, with any texts and a time of 32 bits
abbrev pub RecordsReadBack : Type 0
RecordsReadBack = (kind : ℕ) (line user remote : List ℕ) (time : ℤ) → kind < 10 → FitsSigned w32 time
    → login_of (bytes_of (login_record kind line user remote time)) ≡ Some (login_record kind line user remote time)

-- the rows of the table in two files have numbers of their own
abbrev pub TablesHaveIds : Type 0
TablesHaveIds = (log db : List ℕ) (rows : List Row) → IsTableOf log db rows → HaveIds rows

-- the login records that bytes are read as
abbrev pub records_read : List ℕ → List LoginRecord
records_read bytes = filter_map login_of (first_chunks 384 (length bytes / 384) bytes)

-- the stays of a host are what rows mean, and so are the seconds of its sessions, of all users and of each
pub record AreOfRows (host : ℕ) (rows : List Row) (ordered : List Moment) (entries : List Entry) (until : Option ℤ) : Type 0 where
  pub stays : stays_of host entries until ≡ stays_of_rows host rows ordered until
  pub seconds : session_seconds (stays_of host entries until) ≡ sum_by (λ s. s.length) (sessions_of_rows host rows ordered until)
  pub user_seconds : (user : List ℕ)
      → user_seconds user (stays_of host entries until) ≡ sum_by (λ s. s.length) (filter (λ s. bytes_eq s.user user) (sessions_of_rows host rows ordered until))

-- this is so of a host whose entries are the records that are made of rows with numbers of their own, whatever other entries there are
abbrev pub StaysAreOfRows : Type 0
StaysAreOfRows = (host : ℕ) (rows : List Row) (ordered : List Moment) (entries : List Entry) (until : Option ℤ) → HaveIds rows → AreInOrder (moments rows) ordered
    → of_host host entries ≡ records_of rows ordered (length ordered) → AreOfRows host rows ordered entries until

-- from the bytes of two files: of a host whose entries are what the bytes of the login records in them are read as, the stays are what the table's rows mean
abbrev pub StaysAreOfTable : Type 0
StaysAreOfTable = (log db bytes : List ℕ) → AreLoginsOf log db bytes → (rows : List Row) × (ordered : List Moment) × IsTableOf log db rows × AreInOrder (moments rows) ordered
    × ((host : ℕ) (entries : List Entry) (until : Option ℤ) → of_host host entries ≡ records_read bytes → AreOfRows host rows ordered entries until)

-- a moment is in a second that a login record can hold
abbrev pub FitsRecord : Moment → Type 0
FitsRecord m = is_some (second_of m.micros) ≡ true

-- the microseconds from one moment to another, or none where it goes back
abbrev pub micros_between : Moment → Moment → ℕ
micros_between begin end = unsigned_abs (int_max (end.micros -ℤ begin.micros) (pos 0))

-- so many spans are together less than so many seconds longer or shorter in whole seconds than in microseconds
pub record AreNear (count micros seconds : ℕ) : Type 0 where
  pub low : 1_000_000 * seconds ≤ micros + 999_999 * count
  pub high : micros ≤ 1_000_000 * seconds + 999_999 * count

-- this is so of the spans from the first to the second moment of each pair
abbrev pub SecondsAreNear : Type 0
SecondsAreNear = (spans : List (Moment × Moment)) → All (λ s. FitsRecord s.0 × FitsRecord s.1) spans
    → AreNear (length spans) (sum_by (λ s. micros_between s.0 s.1) spans) (sum_by (λ s. seconds_between (second_at s.0) (second_at s.1)) spans)

-- whether a session has ended
abbrev pub is_over : End → Bool
is_over Still = false
is_over Logout = true
is_over Next = true
is_over Down = true
is_over Crash = true

-- a session that ends, from its login to its end
abbrev pub span_at : Moment → (later : List Moment) → Option (Moment × Moment)
span_at m later = if is_login m.what then option_map (λ end. (m, end)) (end_among m later) else None

-- those whose logins are among these moments
abbrev pub spans_among : List Moment → List (Moment × Moment)
spans_among [] = []
spans_among (m ∷ later) = cons_option (span_at m later) (spans_among later)

-- of rows without a fault the seconds of all sessions that have ended are near to their microseconds
abbrev pub SessionsAreNear : Type 0
SessionsAreNear = (host : ℕ) (rows : List Row) (ordered : List Moment) (until : Option ℤ) → first_fault rows ≡ None → AreInOrder (moments rows) ordered
    → AreNear (length (spans_among ordered)) (sum_by (λ s. micros_between s.0 s.1) (spans_among ordered))
    (sum_by (λ s. s.length) (filter (λ s. is_over s.end) (sessions_of_rows host rows ordered until)))
