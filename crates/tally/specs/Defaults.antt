-- The file that a report reads where the command line names none: that of last(1), ac(1), lastb(8) or sa(8).
use Rattle.std.specs.Prelude.{◌≡◌, ◌⊎◌, ℕ, List, codes, string_bytes}
use Rattle.tally_line.specs.FileWords.{Reads}
use Rattle.tally_line.specs.declared.job.Report.{Report}
use Rattle.tally_line.specs.declared.job.Report.TheVariants as report
use Rattle.tally_line.specs.declared.line.FileArg.{FileArg}

-- the path of the file: systems keep logins, and process records, at one of two, and a report of all has none
abbrev pub IsDefaultPath : Report → List ℕ → Type 0
IsDefaultPath (report.Last limit choice within) path = (path ≡ codes "/var/log/wtmp") ⊎ (path ≡ codes "/var/lib/wtmpdb/wtmp.db")
IsDefaultPath (report.Attempts limit choice) path = path ≡ codes "/var/log/btmp"
IsDefaultPath (report.AttemptSums limit choice) path = path ≡ codes "/var/log/btmp"
IsDefaultPath (report.Connect by_day by_user choice) path = (path ≡ codes "/var/log/wtmp") ⊎ (path ≡ codes "/var/lib/wtmpdb/wtmp.db")
IsDefaultPath (report.Commands order reverse all) path = (path ≡ codes "/var/log/account/pacct") ⊎ (path ≡ codes "/var/account/pacct")
IsDefaultPath (report.Users order reverse) path = (path ≡ codes "/var/log/account/pacct") ⊎ (path ≡ codes "/var/account/pacct")
IsDefaultPath report.All path = ⊥

-- the file: its path, and a kind that the report reads
pub record IsDefaultFile (r : Report) (file : FileArg) : Type 0 where
  pub kind : Reads r file.kind
  pub path : IsDefaultPath r (string_bytes file.path)

-- how many files are read so
abbrev pub default_count : Report → ℕ
default_count report.All = 0
default_count r = 1
