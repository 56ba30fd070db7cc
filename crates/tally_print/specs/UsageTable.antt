-- Usage as tables: whole counts, ticks (hundredths of a second) and sums.
use Rattle.std.specs.Prelude.{ℕ, Bool, true, false, List, [], ◌∷◌, ◌++◌, codes, decimal}
use Rattle.tally_usage.specs.declared.command.CommandRow.{CommandRow}
use Rattle.tally_usage.specs.declared.usage.Usage.{Usage}
use Rattle.tally_usage.specs.declared.user.UidRow.{UidRow}
use Rattle.tally_print.specs.Tables.{Row}
use Rattle.tally_print.specs.Text.{shown}

-- a mark as a number
abbrev pub mark_field : Bool → List ℕ
mark_field true = codes "1"
mark_field false = codes "0"

-- the names of the columns of what was used
abbrev pub usage_header : Row
usage_header = codes "calls" ∷ codes "real_ticks" ∷ codes "cpu_ticks" ∷ codes "io" ∷ codes "mem_cpu" ∷ []

-- calls, ticks elapsed, ticks of cpu, and bytes read and written
unfoldable pub sum_fields : Usage → Row
sum_fields u = decimal u.count ∷ decimal u.real ∷ decimal u.cpu ∷ decimal u.io ∷ []

-- the names of the columns of usage by command
unfoldable pub command_header : Row
command_header = codes "command" ∷ codes "forked" ∷ codes "other" ∷ usage_header

-- the command's name as printed, whether it forked and never called exec, and whether the row joins other commands
unfoldable pub name_fields : CommandRow → Row
name_fields row = shown row.name ∷ mark_field row.forked ∷ mark_field row.other ∷ []

-- the fields of a command under these names
unfoldable pub command_fields : CommandRow → Row
command_fields row = name_fields row ++ sum_fields row.usage ++ decimal row.usage.mem_cpu ∷ []

-- the names of the columns of usage by user
unfoldable pub user_header : Row
user_header = codes "uid" ∷ usage_header

-- the user's number
abbrev pub uid_fields : UidRow → Row
uid_fields row = decimal row.uid ∷ []

-- the fields of a user under these names
unfoldable pub user_fields : UidRow → Row
user_fields row = uid_fields row ++ sum_fields row.usage ++ decimal row.usage.mem_cpu ∷ []
