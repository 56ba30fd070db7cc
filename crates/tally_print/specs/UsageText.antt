-- The text of a report of commands or of users, as sa(8) prints it.
use Rattle.std.specs.Prelude.{ℕ, ◌==◌, ◌/◌, if◌then◌else◌, List, ◌++◌, flat_map, codes, decimal}
use Rattle.tally_usage.specs.declared.command.CommandRow.{CommandRow}
use Rattle.tally_usage.specs.declared.usage.Usage.{Usage}
use Rattle.tally_usage.specs.declared.user.UidRow.{UidRow}
use Rattle.tally_print.specs.Text.{shown, left, right, minutes}

-- a quotient rounded down, and 0 where the divisor is 0
abbrev pub average : ℕ → ℕ → ℕ
average sum count = if count == 0 then 0 else sum / count

-- count, minutes elapsed, minutes of cpu, io of a call, and memory of a tick of cpu
unfoldable pub columns : Usage → List ℕ
columns u =
    right (decimal u.count) 8 ++ codes " " ++ right (minutes u.real) 12 ++ codes "re "
    ++ right (minutes u.cpu) 12 ++ codes "cp " ++ right (decimal (average u.io u.count)) 10
    ++ codes "avio " ++ right (decimal (average u.mem_cpu u.cpu)) 10 ++ codes "k"

-- the line of the total, above the rows by command
unfoldable pub total_line : Usage → List ℕ
total_line total = columns total ++ codes "\n"

-- the line of a command: its columns, its name, and a mark where it forked
unfoldable pub command_line : CommandRow → List ℕ
command_line row =
    columns row.usage ++ codes " " ++ shown row.name ++ (if row.forked then codes "*" else codes "")
    ++ codes "\n"

-- the line of the total, and a line for each command
abbrev pub commands_text : List CommandRow → Usage → List ℕ
commands_text rows total = total_line total ++ flat_map command_line rows

-- the line of the total, above the rows by user
unfoldable pub named_total_line : Usage → List ℕ
named_total_line total = left (codes "total") 10 ++ codes " " ++ columns total ++ codes "\n"

-- the line of a user: its number and its columns
unfoldable pub user_line : UidRow → List ℕ
user_line row = left (decimal row.uid) 10 ++ codes " " ++ columns row.usage ++ codes "\n"

-- the line of the total, and a line for each user
abbrev pub users_text : List UidRow → Usage → List ℕ
users_text rows total = named_total_line total ++ flat_map user_line rows
