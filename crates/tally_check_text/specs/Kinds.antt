-- What kinds of files are called.
use Rattle.std.specs.Prelude.{ℕ, Bool, true, false, ◌&&◌, ◌||◌, nat_lt, ◌==◌, List, Option, Some, None, codes, drop, get_or, if◌then◌else◌, take}
use Rattle.std.specs.List.{list_all}
use Rattle.tally_check.specs.declared.findings.Content.{Content}
use Rattle.tally_check.specs.declared.findings.Content.TheVariants as content
use Rattle.tally_check.specs.declared.findings.LoginFindings.{LoginFindings}
use Rattle.tally_check.specs.declared.findings.ProcFindings.{ProcFindings}
use Rattle.tally_check_text.specs.declared.origin.Origin.{Origin}
use Rattle.tally_check_text.specs.declared.origin.Origin.TheVariants as origin
use Rattle.tally_kinds.specs.declared.kinds.Looks.{Looks}
use Rattle.tally_kinds.specs.declared.kinds.Looks.TheVariants as looks

-- what a file without records that are read has, as the hint on it says
abbrev pub other_name : Looks → List ℕ
other_name looks.Nothing = codes "empty"
other_name looks.Gzip = codes "packed by gzip"
other_name looks.Xz = codes "packed by xz"
other_name looks.Zstd = codes "packed by zstd"
other_name looks.Bzip2 = codes "packed by bzip2"
other_name looks.Sqlite = codes "an SQLite database, as of wtmpdb"
other_name looks.FailedLogins = codes "login records"
other_name looks.Logins = codes "login records"
other_name looks.Logins400 = codes "login records of 400 bytes, as 64-bit ARM and s390x write them"
other_name looks.BigEndianLogins = codes "login records of a big-endian machine"
other_name looks.Processes = codes "process records"
other_name looks.BigEndianProcesses = codes "process records of a big-endian machine"
other_name looks.Lastlog = codes "the last login of each user, as lastlog(8) shows it"
other_name looks.Savacct = codes "the sums by command of sa(8), as savacct keeps them"
other_name looks.Usracct = codes "the sums by user of sa(8), as usracct keeps them"
other_name looks.Text = codes "text"
other_name looks.Unknown = codes "of no known kind"

-- the command that unpacks a packed file
abbrev pub unpacker : Looks → Option (List ℕ)
unpacker looks.Gzip = Some (codes "zcat")
unpacker looks.Xz = Some (codes "xzcat")
unpacker looks.Zstd = Some (codes "zstdcat")
unpacker looks.Bzip2 = Some (codes "bzcat")
unpacker other = None

abbrev pub are_none : List ℕ → Bool
are_none counts = list_all (λ count. count == 0) counts

-- no record has a type that a file of failed logins has not: of the types 0 to 9, that is all but 0, 6 and 7
abbrev pub has_no_other : List ℕ → Bool
has_no_other types = are_none (take 5 (drop 1 types)) && are_none (take 2 (drop 8 types))

abbrev pub may_be_failed : LoginFindings → Bool
may_be_failed found =
    (nat_lt 0 (get_or found.types 6 0) || nat_lt 0 (get_or found.types 7 0)) && has_no_other found.types

abbrev pub logins_name : LoginFindings → List ℕ
logins_name found = if may_be_failed found then codes "login records, maybe failed logins" else codes "login records"

-- process records by their versions
abbrev pub versions_name : Bool → Bool → List ℕ
versions_name true true = codes "process records, versions 2 and 3"
versions_name true false = codes "process records, version 2"
versions_name false true = codes "process records, version 3"
versions_name false false = codes "process records"

abbrev pub procs_name : ProcFindings → List ℕ
procs_name found = versions_name (nat_lt 0 found.version_2) (nat_lt 0 found.version_3)

-- what a file has, by its bytes
abbrev pub content_name : Content → List ℕ
content_name (content.Logins found) = logins_name found
content_name (content.Processes found) = procs_name found
content_name (content.Other looks) = other_name looks

-- what a file has; of records that were made of a database it is these, whatever their types
abbrev pub kind_name : Origin → Content → List ℕ
kind_name origin.File content = content_name content
kind_name origin.Database content = codes "login records of a database"
kind_name (origin.Refused why) content = content_name content

abbrev pub looks_word : Looks → List ℕ
looks_word looks.Nothing = codes "empty"
looks_word looks.Gzip = codes "gzip"
looks_word looks.Xz = codes "xz"
looks_word looks.Zstd = codes "zstd"
looks_word looks.Bzip2 = codes "bzip2"
looks_word looks.Sqlite = codes "sqlite"
looks_word looks.FailedLogins = codes "login"
looks_word looks.Logins = codes "login"
looks_word looks.Logins400 = codes "login_400"
looks_word looks.BigEndianLogins = codes "login_big_endian"
looks_word looks.Processes = codes "process"
looks_word looks.BigEndianProcesses = codes "process_big_endian"
looks_word looks.Lastlog = codes "lastlog"
looks_word looks.Savacct = codes "savacct"
looks_word looks.Usracct = codes "usracct"
looks_word looks.Text = codes "text"
looks_word looks.Unknown = codes "unknown"

-- what a file has, by its bytes, in one word
abbrev pub content_word : Content → List ℕ
content_word (content.Logins found) = codes "login"
content_word (content.Processes found) = codes "process"
content_word (content.Other looks) = looks_word looks

-- what a file has, or what was made of it, in one word
abbrev pub kind_word : Origin → Content → List ℕ
kind_word origin.File content = content_word content
kind_word origin.Database content = codes "wtmpdb"
kind_word (origin.Refused why) content = content_word content
