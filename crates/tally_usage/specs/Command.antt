-- Command groups, and the rows of a summary by command.
use Rattle.std.specs.Prelude.{ℕ, ◌%◌, Bool, true, false, ◌==◌, ◌&&◌, ◌||◌, not, nat_le, if◌then◌else◌, List, ◌++◌, length, map, filter, reverse, replicate, codes}
use Rattle.std.specs.Bool.{beq}
use Rattle.std.specs.Cmp.Lexicographic.{slice_cmp}
use Rattle.std.specs.List.{list_all, before_first}
use Rattle.std.specs.Ordering.{nat_cmp, bool_cmp, ordering_then}
use Rattle.std.specs.declared.cmp.Ordering.{Ordering}
use Rattle.std.specs.Str.{bytes_eq}
use Rattle.tally_records.specs.declared.process.ProcRecord.{ProcRecord}
use Rattle.tally_usage.specs.declared.command.Command.{Command}
use Rattle.tally_usage.specs.declared.command.CommandRow.{CommandRow}
use Rattle.tally_usage.specs.declared.order.Order.{Order}
use Rattle.tally_usage.specs.Order.{measure_of}
use Rattle.tally_records.specs.Sorted.{in_order}
use Rattle.tally_usage.specs.Usage.{usage_of}

-- the group of a record: its name and its fork mark, the lowest bit of the flag
abbrev pub command_of : ProcRecord → Command
command_of r = record { name = r.comm; forked = r.flag % 2 == 1 }

-- the same name and the same mark
abbrev pub is_same_command : Command → Command → Bool
is_same_command a b = bytes_eq a.name b.name && beq a.forked b.forked

-- the records of a group
abbrev pub records_of_command : Command → List ProcRecord → List ProcRecord
records_of_command command rs = filter (λ r. is_same_command command (command_of r)) rs

-- each byte of the name's text, which ends before the first zero, is printable ASCII
abbrev pub is_printable : List ℕ → Bool
is_printable name =
    list_all (λ byte. nat_le 0x20 byte && nat_le byte 0x7e) (before_first (λ byte. byte == 0) name)

-- a group of one record, or one whose name does not print
abbrev pub is_stray : List ProcRecord → Command → Bool
is_stray rs command =
    (length (records_of_command command rs) == 1) || not (is_printable command.name)

-- the row of a group
abbrev pub command_row : List ProcRecord → Command → CommandRow
command_row rs command = record {
  name = command.name;
  forked = command.forked;
  other = false;
  usage = usage_of (records_of_command command rs);
}

-- the row of all stray groups together
abbrev pub other_row : List ProcRecord → CommandRow
other_row rs = record {
  name = codes "***other" ++ replicate 9 0;
  forked = false;
  other = true;
  usage = usage_of (filter (λ r. is_stray rs (command_of r)) rs);
}

-- the row that counts the record
abbrev pub row_of_record : Bool → List ProcRecord → ProcRecord → CommandRow
row_of_record all rs r =
    if not all && is_stray rs (command_of r) then other_row rs else command_row rs (command_of r)

-- greatest number first; then by the name's bytes, unmarked before marked, and a real name before the row of the
-- stray groups
abbrev pub command_row_cmp : Order → CommandRow → CommandRow → Ordering
command_row_cmp order a b =
    ordering_then (ordering_then (ordering_then (nat_cmp (measure_of order b.usage) (measure_of order a.usage))
    (slice_cmp nat_cmp a.name b.name)) (bool_cmp a.forked b.forked)) (bool_cmp a.other b.other)

-- the rows by command: those that count a record, each once, in order
unfoldable pub command_rows : Order → Bool → Bool → List ProcRecord → List CommandRow
command_rows order all reversed rs =
    let rows = in_order (command_row_cmp order) (map (row_of_record all rs) rs) in
    if reversed then reverse rows else rows
