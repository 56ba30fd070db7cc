-- Users, and the rows of a summary by user.
use Rattle.std.specs.Prelude.{ℕ, Bool, nat_eq, if◌then◌else◌, List, map, filter, reverse}
use Rattle.std.specs.Ordering.{nat_cmp, ordering_then}
use Rattle.std.specs.declared.cmp.Ordering.{Ordering}
use Rattle.tally_records.specs.declared.process.ProcRecord.{ProcRecord}
use Rattle.tally_usage.specs.declared.order.Order.{Order}
use Rattle.tally_usage.specs.declared.user.UidRow.{UidRow}
use Rattle.tally_usage.specs.Order.{measure_of}
use Rattle.tally_records.specs.Sorted.{in_order}
use Rattle.tally_usage.specs.Usage.{usage_of}

-- the records of a user
abbrev pub records_of_user : ℕ → List ProcRecord → List ProcRecord
records_of_user uid rs = filter (λ r. nat_eq uid r.uid) rs

-- the row of a user
abbrev pub user_row : List ProcRecord → ℕ → UidRow
user_row rs uid = record { uid = uid; usage = usage_of (records_of_user uid rs) }

-- greatest number first, then by uid
abbrev pub user_row_cmp : Order → UidRow → UidRow → Ordering
user_row_cmp order a b =
    ordering_then (nat_cmp (measure_of order b.usage) (measure_of order a.usage)) (nat_cmp a.uid b.uid)

-- the rows by user: one for each user of a record, in order
unfoldable pub user_rows : Order → Bool → List ProcRecord → List UidRow
user_rows order reversed rs =
    let rows = in_order (user_row_cmp order) (map (λ r. user_row rs r.uid) rs) in
    if reversed then reverse rows else rows
