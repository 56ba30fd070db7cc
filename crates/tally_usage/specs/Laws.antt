-- What holds of the rows of every list of process records.
use Rattle.std.specs.Prelude.{◌≡◌, Bool, false, List, Contains, IsPermutation, sum_by}
use Rattle.std.specs.List.Sorted.{IsStrictlySortedBy}
use Rattle.tally_records.specs.declared.process.ProcRecord.{ProcRecord}
use Rattle.tally_usage.specs.declared.order.Order.{Order}
use Rattle.tally_usage.specs.declared.usage.Usage.{Usage}
use Rattle.tally_usage.specs.Command.{command_row_cmp, command_rows, row_of_record}
use Rattle.tally_usage.specs.Usage.{usage_of}
use Rattle.tally_usage.specs.User.{user_row, user_row_cmp, user_rows}

-- rows that are not reversed stand in strictly ascending order
abbrev pub RowsAscend : Type 0
RowsAscend =
    (order : Order) (all : Bool) (rs : List ProcRecord)
    → IsStrictlySortedBy (command_row_cmp order) (command_rows order all false rs)
    × IsStrictlySortedBy (user_row_cmp order) (user_rows order false rs)

-- each record is counted by the row of its group and by that of its user
abbrev pub RecordsHaveRows : Type 0
RecordsHaveRows =
    (order : Order) (all : Bool) (rs : List ProcRecord) (r : ProcRecord) → Contains rs r
    → Contains (command_rows order all false rs) (row_of_record all rs r)
    × Contains (user_rows order false rs) (user_row rs r.uid)

-- the order of the records changes no answer
abbrev pub RecordOrderIsFree : Type 0
RecordOrderIsFree =
    (order : Order) (all reversed : Bool) (rs ss : List ProcRecord) → IsPermutation rs ss
    → (command_rows order all reversed ss ≡ command_rows order all reversed rs)
    × (user_rows order reversed ss ≡ user_rows order reversed rs) × (usage_of ss ≡ usage_of rs)

-- what items used together, each by its usage
abbrev pub together : {X : Type 0} → (X → Usage) → List X → Usage
together usage xs = record {
  count = sum_by (λ x. (usage x).count) xs;
  real = sum_by (λ x. (usage x).real) xs;
  cpu = sum_by (λ x. (usage x).cpu) xs;
  io = sum_by (λ x. (usage x).io) xs;
  mem_cpu = sum_by (λ x. (usage x).mem_cpu) xs;
}

-- the rows of a report add up to the total
abbrev pub RowsAddUp : Type 0
RowsAddUp =
    (order : Order) (all reversed : Bool) (rs : List ProcRecord)
    → (together (λ row. row.usage) (command_rows order all reversed rs) ≡ usage_of rs)
    × (together (λ row. row.usage) (user_rows order reversed rs) ≡ usage_of rs)
