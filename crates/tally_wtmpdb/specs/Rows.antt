-- What a row of wtmpdb's table says. Its columns, by place: 0 the row's number, which is its ID, 2 Type, 3 User, 4 Login, 5 Logout,
-- 6 TTY, 7 RemoteHost. Login and Logout are microseconds since 1970.
use Rattle.std.specs.Prelude.{ℕ, Bool, true, not, ◌&&◌, ◌||◌, ◌==◌, nat_lt, if◌then◌else◌, List, [], length, filter, filter_map, slice_get, slice_index, Option, Some, None, unwrap_or, option_map, is_some, ℤ, pos, int_le, neg_ℤ}
use Rattle.std.specs.Int.{int_div_euclid, int_max}
use Rattle.std.specs.Ordering.{int_eq}
use Rattle.sqlite_value.specs.Order.{Row, column}
use Rattle.sqlite_value.specs.declared.value.Value.{Value}
use Rattle.sqlite_value.specs.declared.value.Value.TheVariants.{Null, Int, Real, Text, Blob}
use Rattle.tally_wtmpdb.specs.declared.fault.RowFault.{RowFault}
use Rattle.tally_wtmpdb.specs.declared.fault.RowFault.TheVariants.{LongUser, Time}

-- the number that a value is
abbrev pub int_in : Value → Option ℤ
int_in Null = None
int_in (Int n) = Some n
int_in (Real x) = None
int_in (Text t) = None
int_in (Blob b) = None

-- the bytes of a text; another value has none
abbrev pub text_in : Value → List ℕ
text_in Null = []
text_in (Int n) = []
text_in (Real x) = []
text_in (Text t) = t
text_in (Blob b) = []

abbrev pub int_at : ℕ → Row → Option ℤ
int_at place row = int_in (column row place)

abbrev pub text_at : ℕ → Row → List ℕ
text_at place row = text_in (column row place)

abbrev pub id_of : Row → ℤ
id_of row = unwrap_or (int_at 0 row) (pos 0)

abbrev pub user_of : Row → List ℕ
user_of row = text_at 3 row

abbrev pub tty_of : Row → List ℕ
tty_of row = text_at 6 row

abbrev pub remote_of : Row → List ℕ
remote_of row = text_at 7 row

abbrev pub login_of : Row → ℤ
login_of row = unwrap_or (int_at 4 row) (pos 0)

-- a logout before its login counts as one at the login
abbrev pub logout_of : Row → Option ℤ
logout_of row = option_map (int_max (login_of row)) (int_at 5 row)

-- a text is empty where it begins with a NUL, as a field of a login record is
abbrev pub is_blank : List ℕ → Bool
is_blank text = slice_index text 0 == 0

-- a row is of this type, and has a Login
abbrev pub is_of : ℤ → Row → Bool
is_of type row = int_eq (unwrap_or (int_at 2 row) (pos 0)) type && is_some (int_at 4 row)

-- a row is a user's session on a line
abbrev pub is_session : Row → Bool
is_session row = is_of (pos 3) row && not (is_blank (user_of row)) && not (is_blank (tty_of row))

-- a row is a boot of the host; its Logout is the shutdown that ends what was booted
abbrev pub is_boot : Row → Bool
is_boot row = is_of (pos 1) row

-- the whole second that microseconds are in, where a login record can hold it
abbrev pub second_of : ℤ → Option ℤ
second_of micros =
    let second = int_div_euclid micros (pos 1_000_000) in
    if int_le (neg_ℤ (pos 2_147_483_648)) second && int_le second (pos 2_147_483_647) then Some second else None

-- a time is none, or a login record can hold it
abbrev pub has_second : Option ℤ → Bool
has_second None = true
has_second (Some micros) = is_some (second_of micros)

-- a session's user fits a login record
abbrev pub has_short_user : Row → Bool
has_short_user row = not (is_session row) || not (nat_lt 32 (length (user_of row)))

-- a row's times fit login records
abbrev pub has_seconds : Row → Bool
has_seconds row = has_second (int_at 4 row) && has_second (int_at 5 row)

-- a row has login records
abbrev pub is_told : Row → Bool
is_told row = is_session row || is_boot row

-- why a session or a boot has no login records
abbrev pub fault_in : Row → Option RowFault
fault_in row = if has_short_user row then (if has_seconds row then None else Some (Time (id_of row))) else Some (LongUser (id_of row))

-- why a row that should have login records has none
abbrev pub fault_of : Row → Option RowFault
fault_of row = if is_told row then fault_in row else None

-- the first row's fault, in the table's order
abbrev pub first_fault : List Row → Option RowFault
first_fault rows = slice_get (filter_map fault_of rows) 0

-- the sessions of the rows, in the table's order
abbrev pub sessions : List Row → List Row
sessions rows = filter is_session rows

-- the boots of the rows, in the table's order
abbrev pub boots : List Row → List Row
boots rows = filter is_boot rows
