-- The login records that are made of the rows of wtmpdb's table, and their bytes (utmp(5), Linux on x86-64).
use Rattle.std.specs.Prelude.{◌≡◌, ℕ, ◌-◌, Bool, if◌then◌else◌, List, [], ◌∷◌, ◌++◌, length, filter_map, flat_map, replicate, slice_get, slice_index_or, Option, Some, None, option_map, unwrap_or, codes, ℤ, pos}
use Rattle.std.specs.Fmt.{signed_decimal}
use Rattle.std.specs.Int.{w32, cast_unsigned, to_le_bytes}
use Rattle.std.specs.List.{range_with_len}
use Rattle.sqlite_value.specs.Order.{Row}
use Rattle.tally_records.specs.declared.login.LoginRecord.{LoginRecord}
use Rattle.tally_wtmpdb.specs.Fields.{field, kept}
use Rattle.tally_wtmpdb.specs.Lines.{mark_at}
use Rattle.tally_wtmpdb.specs.Moments.{AreInOrder, moments}
use Rattle.tally_wtmpdb.specs.Rows.{id_of, remote_of, second_of, tty_of, user_of}
use Rattle.tally_wtmpdb.specs.declared.moment.Moment.{Moment}
use Rattle.tally_wtmpdb.specs.declared.moment.What.{What}
use Rattle.tally_wtmpdb.specs.declared.moment.What.TheVariants.{Logout, Down, Boot, Login, LogoutAtOnce}

-- what tells a session's line from those of all other sessions: `#` and the row's number
abbrev pub mark_of : Row → List ℕ
mark_of row = codes "#" ++ signed_decimal (id_of row)

-- a session's line with a mark: its TTY, cut so that the mark fits, and the mark
abbrev pub marked_line : Row → List ℕ
marked_line row = kept (32 - length (mark_of row)) (tty_of row) ++ mark_of row

-- the line of a session: its TTY, with a mark or without
abbrev pub line_of : Bool → Row → List ℕ
line_of marked row = if marked then marked_line row else tty_of row

-- a login record with these texts
abbrev pub login_record : ℕ → List ℕ → List ℕ → List ℕ → ℤ → LoginRecord
login_record kind line user remote time =
    record { kind = kind; line = field 32 line; user = field 32 user; remote = field 256 remote; time = time }

-- the record of a row's moment, of a session on a line: USER_PROCESS, DEAD_PROCESS, BOOT_TIME or RUN_LVL with the names of a shutdown
abbrev pub record_of : Row → List ℕ → What → ℤ → LoginRecord
record_of row line Login time = login_record 7 line (user_of row) (remote_of row) time
record_of row line Logout time = login_record 8 line [] [] time
record_of row line LogoutAtOnce time = login_record 8 line [] [] time
record_of row line Boot time = login_record 2 (codes "~") (codes "reboot") (remote_of row) time
record_of row line Down time = login_record 1 (codes "~") (codes "shutdown") (remote_of row) time

-- the record of a row's moment, at the second that it is in
abbrev pub made_of : Row → Bool → Moment → LoginRecord
made_of row marked m = record_of row (line_of marked row) m.what (unwrap_or (second_of m.micros) (pos 0))

-- the record of a moment, where it has one
abbrev pub made_if : List Row → Option Bool → Option Moment → Option LoginRecord
made_if rows mark None = None
made_if rows mark (Some m) = option_map (λ marked. made_of (slice_index_or rows m.place []) marked m) mark

-- the record of the i-th of the ordered moments, where it has one
abbrev pub record_at : List Row → List Moment → ℕ → Option LoginRecord
record_at rows ordered i = made_if rows (mark_at rows ordered i) (slice_get ordered i)

-- the records of the first n of the ordered moments
abbrev pub records_of : List Row → List Moment → ℕ → List LoginRecord
records_of rows ordered n = filter_map (record_at rows ordered) (range_with_len 0 n)

-- so many zeros
abbrev pub zeros : ℕ → List ℕ
zeros n = replicate n 0

-- the 384 bytes of a login record, whose other fields are 0
unfoldable pub bytes_of : LoginRecord → List ℕ
bytes_of r =
    r.kind ∷ zeros 7 ++ r.line ++ zeros 4 ++ r.user ++ r.remote ++ zeros 8 ++ to_le_bytes w32 (cast_unsigned w32 r.time) ++ zeros 40

-- the records of the rows, in the order of their moments
pub record AreMade (rows : List Row) (records : List LoginRecord) : Type 0 where
  pub ordered : List Moment
  pub in_order : AreInOrder (moments rows) ordered
  pub made : records ≡ records_of rows ordered (length ordered)

-- bytes are those of the records that are made of the rows
pub record AreBytesOfMade (rows : List Row) (bytes : List ℕ) : Type 0 where
  pub records : List LoginRecord
  pub made : AreMade rows records
  pub laid : bytes ≡ flat_map bytes_of records
