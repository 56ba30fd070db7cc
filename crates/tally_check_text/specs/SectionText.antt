-- The section of a file: what it has, and a line for each thing that makes totals over it doubtful.
use Rattle.std.specs.Prelude.{ℕ, ◌-◌, ◌==◌, ◌&&◌, nat_lt, Bool, true, false, List, [], ◌∷◌, ◌++◌, ℤ, ◌-ℤ◌, unsigned_abs, unwrap_or, Option, Some, None, codes, decimal, if◌then◌else◌}
use Rattle.tally_check.specs.Findings.{is_doubtful}
use Rattle.tally_check.specs.declared.counts.Counts.{Counts}
use Rattle.tally_check.specs.declared.counts.Found.{Found}
use Rattle.tally_check.specs.declared.counts.Span.{Span}
use Rattle.tally_check.specs.declared.findings.Content.{Content}
use Rattle.tally_check.specs.declared.findings.Content.TheVariants as content
use Rattle.tally_check.specs.declared.findings.Findings.{Findings}
use Rattle.tally_check.specs.declared.findings.LoginFindings.{LoginFindings}
use Rattle.tally_check.specs.declared.findings.ProcFindings.{ProcFindings}
use Rattle.tally_check.specs.declared.stays.Sessions.{Sessions}
use Rattle.tally_check.specs.declared.stays.Stayed.{Stayed}
use Rattle.tally_check.specs.declared.steps.Steps.{Steps}
use Rattle.tally_check_text.specs.Kinds.{kind_name, unpacker}
use Rattle.tally_check_text.specs.Moments.{length_text, moment}
use Rattle.tally_check_text.specs.Quoted.{quoted}
use Rattle.tally_check_text.specs.declared.origin.Origin.{Origin}
use Rattle.tally_check_text.specs.declared.origin.Origin.TheVariants as origin
use Rattle.tally_kinds.specs.declared.kinds.Looks.{Looks}
use Rattle.tally_kinds.specs.declared.kinds.Looks.TheVariants as looks
use Rattle.tally_print.specs.Text.{shown}

-- the types of utmp(5), 0 to 9
abbrev pub type_names : List (List ℕ)
type_names =
    codes "EMPTY" ∷ codes "RUN_LVL" ∷ codes "BOOT_TIME" ∷ codes "NEW_TIME" ∷ codes "OLD_TIME" ∷ codes "INIT_PROCESS"
    ∷ codes "LOGIN_PROCESS" ∷ codes "USER_PROCESS" ∷ codes "DEAD_PROCESS" ∷ codes "ACCOUNTING" ∷ []

-- so many of what has one name for one of them and another for more
unfoldable pub number_of : ℕ → List ℕ → List ℕ → List ℕ
number_of n one more = decimal n ++ codes " " ++ (if n == 1 then one else more)

-- a type with its count, after others or after the label of the line
abbrev pub type_text : Bool → ℕ → List ℕ → List ℕ
type_text begun count name = (if begun then codes ", " else codes "types           ") ++ decimal count ++ codes " " ++ name

-- the types that records have, after others or not; the line ends after the last
unfoldable pub types_after : Bool → List ℕ → List (List ℕ) → List ℕ
types_after begun (count ∷ counts) (name ∷ names) =
    if count == 0 then types_after begun counts names
    else type_text begun count name ++ types_after true counts names
types_after true counts names = codes "\n"
types_after false counts names = []

-- a line of the types that records have, where there is one
abbrev pub types_text : List ℕ → List ℕ
types_text types = types_after false types type_names

-- a line of the versions, where there are both
abbrev pub versions_text : ProcFindings → List ℕ
versions_text found =
    if nat_lt 0 found.version_2 && nat_lt 0 found.version_3
    then codes "versions        " ++ decimal found.version_2 ++ codes " of version 2, " ++ decimal found.version_3 ++ codes " of version 3\n"
    else []

-- the time from the first second to the last
unfoldable pub between_text : Span → List ℕ
between_text span = codes "span            " ++ length_text (unsigned_abs (span.last -ℤ span.first)) ++ codes "\n"

-- a line with a moment after its label
unfoldable pub time_text : (ℤ → ℤ) → List ℕ → ℤ → List ℕ
time_text clock label time = label ++ moment clock time ++ codes "\n"

-- the first time, the last, and the time between them
abbrev pub times_text : (ℤ → ℤ) → Span → List ℕ
times_text clock span =
    time_text clock (codes "first           ") span.first ++ time_text clock (codes "last            ") span.last ++ between_text span

abbrev pub span_text : (ℤ → ℤ) → Option Span → List ℕ
span_text clock None = []
span_text clock (Some span) = times_text clock span

-- the seconds of sessions together, where there is one
abbrev pub together_text : Stayed → List ℕ
together_text stayed = if stayed.count == 0 then [] else codes ", " ++ length_text stayed.seconds

abbrev pub stayed_text : List ℕ → Stayed → List ℕ
stayed_text label stayed =
    label ++ number_of stayed.count (codes "session") (codes "sessions")
    ++ together_text stayed ++ codes "\n"

-- ---- doubts

abbrev pub doubt : List ℕ → List ℕ
doubt what = codes "doubtful        " ++ what ++ codes "\n"

-- where the first of some records stands, or the only one
abbrev pub place_text : ℕ → ℕ → List ℕ
place_text count first = (if count == 1 then codes ": record " else codes ": the first is record ") ++ decimal first

-- a line on records of a sort, where there are any
unfoldable pub found_text : ℕ → ℕ → List ℕ → List ℕ → List ℕ
found_text count first one more =
    if count == 0 then [] else doubt (number_of count one more ++ place_text count first)

abbrev pub place_of : Found → ℕ
place_of found = unwrap_or found.first 0

-- records of zeros alone that other records follow
abbrev pub zeros_before_text : Counts → List ℕ
zeros_before_text counts =
    found_text (counts.zeros.all.count - counts.zeros.at_end) (place_of counts.zeros.all)
    (codes "record of zeros before other records") (codes "records of zeros before other records")

-- and those at the end
abbrev pub zeros_after_text : Counts → List ℕ
zeros_after_text counts =
    found_text counts.zeros.at_end (counts.records - counts.zeros.at_end)
    (codes "record of zeros at the end") (codes "records of zeros at the end")

abbrev pub zeros_text : Counts → List ℕ
zeros_text counts = zeros_before_text counts ++ zeros_after_text counts

abbrev pub no_type_text : Found → List ℕ
no_type_text unknown = found_text unknown.count (place_of unknown) (codes "record of no known type") (codes "records of no known type")

abbrev pub no_version_text : Found → List ℕ
no_version_text unknown =
    found_text unknown.count (place_of unknown) (codes "record of no known version") (codes "records of no known version")

abbrev pub greatest_text : ℕ → List ℕ
greatest_text seconds = codes " without a clock change, " ++ length_text seconds ++ codes " at most"

abbrev pub steps_back_text : Steps → List ℕ
steps_back_text steps =
    number_of steps.count (codes "step back in time") (codes "steps back in time") ++ greatest_text steps.greatest

abbrev pub steps_text : Steps → List ℕ
steps_text steps = if steps.count == 0 then [] else doubt (steps_back_text steps)

abbrev pub rest_text : ℕ → List ℕ
rest_text rest =
    if rest == 0 then []
    else doubt (number_of rest (codes "byte") (codes "bytes") ++ codes " after the last whole record")

-- what reads a packed file
abbrev pub unpacking : List ℕ → List ℕ → List ℕ
unpacking path unpacker = codes ": try " ++ unpacker ++ codes " " ++ quoted path ++ codes " | tally check /dev/stdin"

abbrev pub remedy : List ℕ → Option (List ℕ) → List ℕ
remedy path None = []
remedy path (Some unpacker) = unpacking path unpacker

-- why no login records were made of a database
abbrev pub refusal : List ℕ → List ℕ
refusal why = codes ": " ++ why

-- why a database has no records that are read, or what reads a packed file
abbrev pub reason : List ℕ → Origin → Looks → List ℕ
reason path origin.File looks = remedy path (unpacker looks)
reason path origin.Database looks = remedy path (unpacker looks)
reason path (origin.Refused why) looks = refusal why.now

abbrev pub is_nothing : Looks → Bool
is_nothing looks.Nothing = true
is_nothing other = false

-- a file without records that are read; an empty one is not doubtful
abbrev pub other_text : List ℕ → Origin → Looks → List ℕ
other_text path origin looks =
    if is_nothing looks then []
    else codes "doubtful        no records that are read" ++ reason path origin looks ++ codes "\n"

-- ---- the section

abbrev pub size_text : ℕ → List ℕ
size_text size = codes "size            " ++ decimal size ++ codes "\n"

abbrev pub records_text : ℕ → List ℕ
records_text records = codes "records         " ++ decimal records ++ codes "\n"

abbrev pub login_lines : (ℤ → ℤ) → LoginFindings → List ℕ
login_lines clock found = records_text found.counts.records ++ types_text found.types ++ span_text clock found.counts.span

abbrev pub sessions_text : Sessions → List ℕ
sessions_text sessions =
    stayed_text (codes "still open      ") sessions.still_open ++ stayed_text (codes "ended by a boot ") sessions.crashed

abbrev pub login_doubts : LoginFindings → List ℕ
login_doubts found =
    zeros_text found.counts ++ no_type_text found.counts.unknown ++ steps_text found.steps ++ rest_text found.rest

abbrev pub logins_text : (ℤ → ℤ) → LoginFindings → List ℕ
logins_text clock found = login_lines clock found ++ sessions_text found.sessions ++ login_doubts found

abbrev pub proc_lines : (ℤ → ℤ) → ProcFindings → List ℕ
proc_lines clock found = records_text found.counts.records ++ versions_text found ++ span_text clock found.counts.span

abbrev pub proc_doubts : ProcFindings → List ℕ
proc_doubts found = zeros_text found.counts ++ no_version_text found.counts.unknown ++ rest_text found.rest

abbrev pub procs_text : (ℤ → ℤ) → ProcFindings → List ℕ
procs_text clock found = proc_lines clock found ++ proc_doubts found

abbrev pub content_text : (ℤ → ℤ) → List ℕ → Origin → Content → List ℕ
content_text clock path origin (content.Logins found) = logins_text clock found
content_text clock path origin (content.Processes found) = procs_text clock found
content_text clock path origin (content.Other looks) = other_text path origin looks

-- that nothing is doubtful
abbrev pub verdict_text : Content → List ℕ
verdict_text content = if is_doubtful content then [] else codes "doubtful        nothing\n"

abbrev pub head_text : List ℕ → Origin → Content → List ℕ
head_text path origin content = shown path ++ codes ": " ++ kind_name origin content ++ codes "\n"

-- the section of the file of a path, with records of an origin and moments by a clock
abbrev pub section_text : (ℤ → ℤ) → List ℕ → Origin → Findings → List ℕ
section_text clock path origin found =
    head_text path origin found.content ++ size_text found.size ++ content_text clock path origin found.content ++ verdict_text found.content
