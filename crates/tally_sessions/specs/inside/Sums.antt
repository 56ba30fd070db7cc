-- Tables of sums, and the rows that they give.
use Rattle.std.specs.Prelude.{ℕ, ℤ, pos, Bool, List, nat_lt, unwrap_or}
use Rattle.std.specs.Map.{lookup}
use Rattle.std.specs.Cmp.Lexicographic.{slice_cmp}
use Rattle.std.specs.Ordering.{int_cmp, is_eq, nat_cmp, ordering_then}
use Rattle.std.specs.declared.cmp.Ordering.{Ordering}
use Rattle.tally_sessions.specs.declared.connect.keys.DayUser.{DayUser}
use Rattle.tally_sessions.specs.declared.connect.keys.RowUser.{RowUser}
use Rattle.tally_sessions.specs.declared.times.DayTime.{DayTime}
use Rattle.tally_sessions.specs.declared.times.DayUserTime.{DayUserTime}
use Rattle.tally_sessions.specs.declared.times.UserTime.{UserTime}

-- the order of users on days: by the day, and then by the name's bytes
abbrev pub day_user_cmp : DayUser → DayUser → Ordering
day_user_cmp a b = ordering_then (int_cmp a.day b.day) (slice_cmp nat_cmp a.user b.user)

-- the order of users at rows of a clock: by the name's bytes, and then by the row
abbrev pub row_user_cmp : RowUser → RowUser → Ordering
row_user_cmp a b = ordering_then (slice_cmp nat_cmp a.user b.user) (nat_cmp a.row b.row)

-- the sum that a table in order has at a key
abbrev pub sum_at : {K : Type 0} → (K → K → Ordering) → List (K × ℕ) → K → ℕ
sum_at cmp sums k = unwrap_or (lookup (λ j. is_eq (cmp k j)) sums) 0

-- the same of sums that may go below 0
abbrev pub change_of : {K : Type 0} → (K → K → Ordering) → List (K × ℤ) → K → ℤ
change_of cmp changes k = unwrap_or (lookup (λ j. is_eq (cmp k j)) changes) (pos 0)

-- a sum of seconds is above 0
abbrev pub above_zero : {K : Type 0} → K × ℕ → Bool
above_zero sum = nat_lt 0 sum.1

-- the row of a user's sum
abbrev pub user_time_of : List ℕ × ℕ → UserTime
user_time_of sum = record { user = sum.0; seconds = sum.1 }

-- the row of a day's sum
abbrev pub day_time_of : ℤ × ℕ → DayTime
day_time_of sum = record { day = sum.0; seconds = sum.1 }

-- the row of the sum of a user on a day
abbrev pub day_user_time_of : DayUser × ℕ → DayUserTime
day_user_time_of sum = record { day = sum.0.day; user = sum.0.user; seconds = sum.1 }
