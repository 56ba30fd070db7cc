-- What is found of files as a table: a row for each. A field of what a file of its kind has not is empty.
use Rattle.std.specs.Prelude.{ℕ, Bool, List, [], ◌∷◌, ◌++◌, ℤ, Option, Some, None, codes, decimal, map, replicate, if◌then◌else◌}
use Rattle.std.specs.Fmt.{signed_decimal}
use Rattle.tally_check.specs.Findings.{is_doubtful}
use Rattle.tally_check.specs.declared.counts.Counts.{Counts}
use Rattle.tally_check.specs.declared.counts.Span.{Span}
use Rattle.tally_check.specs.declared.findings.Content.{Content}
use Rattle.tally_check.specs.declared.findings.Content.TheVariants as content
use Rattle.tally_check.specs.declared.findings.Findings.{Findings}
use Rattle.tally_check.specs.declared.findings.LoginFindings.{LoginFindings}
use Rattle.tally_check.specs.declared.findings.ProcFindings.{ProcFindings}
use Rattle.tally_check.specs.declared.stays.Sessions.{Sessions}
use Rattle.tally_check_text.specs.Kinds.{kind_word}
use Rattle.tally_check_text.specs.Moments.{iso_moment}
use Rattle.tally_check_text.specs.declared.origin.Origin.{Origin}
use Rattle.tally_print.specs.FileColumns.{file_names}
use Rattle.tally_print.specs.Tables.{Row}

-- so many empty fields
abbrev pub empty : ℕ → Row
empty n = replicate n []

-- the names of the columns after those of the file
unfoldable pub check_names : Row
check_names =
    codes "kind" ∷ codes "size" ∷ codes "records" ∷ codes "empty" ∷ codes "run_lvl" ∷ codes "boot_time" ∷ codes "new_time"
    ∷ codes "old_time" ∷ codes "init_process" ∷ codes "login_process" ∷ codes "user_process" ∷ codes "dead_process"
    ∷ codes "accounting" ∷ codes "version_2" ∷ codes "version_3" ∷ codes "first" ∷ codes "first_at" ∷ codes "last"
    ∷ codes "last_at" ∷ codes "open" ∷ codes "open_seconds" ∷ codes "crashed" ∷ codes "crashed_seconds" ∷ codes "zeros"
    ∷ codes "zeros_at_end" ∷ codes "first_zeros" ∷ codes "unknown" ∷ codes "first_unknown" ∷ codes "steps_back"
    ∷ codes "greatest_step" ∷ codes "rest" ∷ codes "doubtful" ∷ []

-- a second, and the moment that it is by a clock
abbrev pub time_fields : (ℤ → ℤ) → ℤ → Row
time_fields clock time = signed_decimal time ∷ iso_moment clock time ∷ []

abbrev pub span_fields : (ℤ → ℤ) → Option Span → Row
span_fields clock None = empty 4
span_fields clock (Some span) = time_fields clock span.first ++ time_fields clock span.last

-- sessions still open and those that a boot ended, each with their seconds together
abbrev pub sessions_fields : Sessions → Row
sessions_fields sessions =
    decimal sessions.still_open.count ∷ decimal sessions.still_open.seconds
    ∷ decimal sessions.crashed.count ∷ decimal sessions.crashed.seconds ∷ []

-- the place of a record, where there is one
abbrev pub place_field : Option ℕ → List ℕ
place_field None = []
place_field (Some place) = decimal place

-- records that say nothing
abbrev pub silent_fields : Counts → Row
silent_fields counts =
    decimal counts.zeros.all.count ∷ decimal counts.zeros.at_end ∷ place_field counts.zeros.all.first
    ∷ decimal counts.unknown.count ∷ place_field counts.unknown.first ∷ []

-- how many records there are, and of each type
abbrev pub login_counts : LoginFindings → Row
login_counts found = decimal found.counts.records ∷ map decimal found.types ++ empty 2

abbrev pub login_doubts : LoginFindings → Row
login_doubts found =
    silent_fields found.counts ++ decimal found.steps.count ∷ decimal found.steps.greatest ∷ decimal found.rest ∷ []

abbrev pub login_fields : (ℤ → ℤ) → LoginFindings → Row
login_fields clock found =
    login_counts found ++ span_fields clock found.counts.span ++ sessions_fields found.sessions ++ login_doubts found

-- how many records there are, and of each version
abbrev pub proc_counts : ProcFindings → Row
proc_counts found = decimal found.counts.records ∷ empty 10 ++ decimal found.version_2 ∷ decimal found.version_3 ∷ []

abbrev pub proc_doubts : ProcFindings → Row
proc_doubts found = silent_fields found.counts ++ empty 2 ++ decimal found.rest ∷ []

abbrev pub proc_fields : (ℤ → ℤ) → ProcFindings → Row
proc_fields clock found =
    proc_counts found ++ span_fields clock found.counts.span ++ empty 4 ++ proc_doubts found

abbrev pub content_fields : (ℤ → ℤ) → Content → Row
content_fields clock (content.Logins found) = login_fields clock found
content_fields clock (content.Processes found) = proc_fields clock found
content_fields clock (content.Other looks) = empty 29

-- 1 where something is doubtful
abbrev pub doubt_field : Content → List ℕ
doubt_field content = decimal (if is_doubtful content then 1 else 0)

abbrev pub kind_fields : Origin → Findings → Row
kind_fields origin found = kind_word origin found.content ∷ decimal found.size ∷ []

-- the fields of a file but the last
abbrev pub check_fields : (ℤ → ℤ) → Row → Origin → Findings → Row
check_fields clock columns origin found = columns ++ kind_fields origin found ++ content_fields clock found.content

-- the row of a file with these columns and records of an origin
abbrev pub check_row : (ℤ → ℤ) → Row → Origin → Findings → Row
check_row clock columns origin found = check_fields clock columns origin found ++ doubt_field found.content ∷ []

-- the names of the columns, with that of the path where it is asked for
abbrev pub check_header : Bool → Row
check_header paths = file_names paths ++ check_names
