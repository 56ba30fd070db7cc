-- The moments that the rows of wtmpdb's table have, and their order.
use Rattle.std.specs.Prelude.{ℕ, ◌+◌, if◌then◌else◌, List, [], ◌∷◌, ◌++◌, Option, Some, None, ℤ, int_lt}
use Rattle.std.specs.List.Sorted.{IsPermutation, IsSorted}
use Rattle.std.specs.Ordering.{nat_cmp, int_cmp, ordering_then}
use Rattle.std.specs.declared.cmp.Ordering.{Ordering}
use Rattle.sqlite_value.specs.Order.{Row}
use Rattle.tally_wtmpdb.specs.Rows.{is_session, is_boot, login_of, logout_of}
use Rattle.tally_wtmpdb.specs.declared.moment.Moment.{Moment}
use Rattle.tally_wtmpdb.specs.declared.moment.What.{What}
use Rattle.tally_wtmpdb.specs.declared.moment.What.TheVariants.{Logout, Down, Boot, Login, LogoutAtOnce}

-- what happens to the row at a place
abbrev pub moment : ℕ → What → ℤ → Moment
moment place what micros = record { micros = micros; what = what; place = place }

-- a session's logout; one at the login itself has to come after it
abbrev pub logout_kind : Row → ℤ → What
logout_kind row logout = if int_lt (login_of row) logout then Logout else LogoutAtOnce

-- the end of a session, where it has one
abbrev pub session_end : ℕ → Row → Option ℤ → List Moment
session_end place row None = []
session_end place row (Some logout) = moment place (logout_kind row logout) logout ∷ []

-- the end of what was booted, where it has one
abbrev pub boot_end : ℕ → Option ℤ → List Moment
boot_end place None = []
boot_end place (Some down) = moment place Down down ∷ []

-- the moments of the row at a place: a session's login and logout, a boot and its shutdown
abbrev pub moments_of : ℕ → Row → List Moment
moments_of place row =
    if is_session row then moment place Login (login_of row) ∷ session_end place row (logout_of row)
    else (if is_boot row then moment place Boot (login_of row) ∷ boot_end place (logout_of row) else [])

-- those of rows that stand from a place on
abbrev pub moments_from : ℕ → List Row → List Moment
moments_from place [] = []
moments_from place (row ∷ rows) = moments_of place row ++ moments_from (place + 1) rows

-- the moments of all rows
abbrev pub moments : List Row → List Moment
moments rows = moments_from 0 rows

-- what comes first of what is at one microsecond: what ends, then what begins
abbrev pub rank : What → ℕ
rank Logout = 0
rank Down = 1
rank Boot = 2
rank Login = 3
rank LogoutAtOnce = 4

-- by time, then by what happens, then by the row
abbrev pub moment_cmp : Moment → Moment → Ordering
moment_cmp a b = ordering_then (int_cmp a.micros b.micros) (ordering_then (nat_cmp (rank a.what) (rank b.what)) (nat_cmp a.place b.place))

-- the moments, each once, in their order
pub record AreInOrder (moments ordered : List Moment) : Type 0 where
  pub same : IsPermutation moments ordered
  pub ascend : IsSorted moment_cmp ordered
