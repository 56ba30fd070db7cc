-- What a command line asks for.
use Rattle.std.specs.Prelude.{◌≡◌, ◌⊎◌, ◌≤◌, ◌<◌, List, [], Option, Some, None, String, ⊤, codes, length}
use Rattle.std.specs.Prelude.{map, option_map, string_bytes, unwrap_or}
use Rattle.clap.specs.Words.{IsAmong, Row, Text, all_of, fault_of, one_of, subcommand_of}
use Rattle.clap.specs.declared.error.kind.ErrorKind.{ErrorKind}
use Rattle.clap.specs.declared.error.kind.ErrorKind.TheVariants as kind
use Rattle.tally_line.specs.Apart.{HasRowsOfFiles, IsFilesAsked}
use Rattle.tally_line.specs.CommandLine.{tally_app}
use Rattle.tally_line.specs.FileWords.{IsFirstBare, NamesFiles}
use Rattle.tally_line.specs.Jobs.{IsRunnable, TakesUntil}
use Rattle.tally_line.specs.Named.{AreNamed}
use Rattle.tally_line.specs.Offsets.{HasPlainOffsets}
use Rattle.tally_line.specs.Options.{IsOffsetOf, SetsJob, is_set}
use Rattle.tally_line.specs.Times.{AreMoments, times_in}
use Rattle.tally_line.specs.UsageWords.{AreUsageWords, IsUsageAsked}
use Rattle.tally_line.specs.Zones.{HasOneClock, IsZoneOf}
use Rattle.tally_sessions.specs.Days.{IsOffset}
use Rattle.std.specs.declared.alloc.Global.{Global}
use Rattle.tally_line.specs.declared.line.Check.{Check}
use Rattle.tally_line.specs.declared.line.FileArg.{FileArg}
use Rattle.tally_line.specs.declared.line.FilesAsked.{FilesAsked}
use Rattle.tally_line.specs.declared.job.Form.{Form}
use Rattle.tally_line.specs.declared.job.Form.TheVariants as form
use Rattle.tally_line.specs.declared.job.Job.{Job}
use Rattle.tally_line.specs.declared.job.Report.{Report}
use Rattle.tally_line.specs.declared.job.Report.TheVariants as report
use Rattle.tally_line.specs.declared.line.Line.{Line}
use Rattle.tally_line.specs.declared.line.Line.TheVariants as line
use Rattle.tally_line.specs.declared.line.LineFault.{LineFault}
use Rattle.tally_line.specs.declared.line.LineFault.TheVariants as fault
use Rattle.tally_line.specs.declared.line.UsageAsked.{UsageAsked}
use Rattle.tally_line.specs.declared.times.Times.{Times}

-- the name of a subcommand and its matches
abbrev pub Met : Type 0
Met = Option (Text × List Row)

-- what `clap` finds in the words
abbrev pub met_in : List Text → Met
met_in = subcommand_of tally_app

-- the file words among the matches of a subcommand
abbrev pub words_in : List Row → List Text
words_in rows = unwrap_or (all_of (codes "file") rows) []

-- the file words of a command line
abbrev pub file_words : Met → List Text
file_words None = []
file_words (Some found) = words_in found.1

-- the matches of the subcommand
abbrev pub rows_met : Met → List Row
rows_met None = []
rows_met (Some found) = found.1

-- the form is CSV where the matches have the flag, and text where they have it not
pub record IsFormOf (rows : List Row) (f : Form) : Type 0 where
  pub csv : one_of (codes "csv") rows ≡ Some (codes "true") → f ≡ form.Csv
  pub text : one_of (codes "csv") rows ≡ Some (codes "false") → f ≡ form.Text
  pub none : one_of (codes "csv") rows ≡ None → f ≡ form.Text

-- the form that a report's matches ask for; that of all is text
abbrev pub AsksForm : Report → List Row → Form → Type 0
AsksForm report.All rows f = f ≡ form.Text
AsksForm r rows f = IsFormOf rows f

-- the subcommand of a report
abbrev pub name_of : Report → Text
name_of (report.Last limit choice within) = codes "last"
name_of (report.Attempts limit choice) = codes "lastb"
name_of (report.AttemptSums limit choice) = codes "lastb"
name_of (report.Connect by_day by_user choice) = codes "ac"
name_of (report.Commands order reverse all) = codes "sa"
name_of (report.Users order reverse) = codes "sa"
name_of report.All = codes "all"

-- the matches are of a report's subcommand
abbrev pub AsksFor : Report → Met → Type 0
AsksFor r met = option_map (λ found. found.0) met ≡ Some (name_of r)

-- offsets are plain, none stands beside a zone, the words that name, choose processes or say moments are as they have to be,
-- and paths are asked for where rows are of files
pub record AreSound (rows : List Row) : Type 0 where
  pub offsets : HasPlainOffsets rows
  pub clock : HasOneClock rows
  pub named : AreNamed rows
  pub usage : AreUsageWords rows
  pub paths : HasRowsOfFiles rows
  pub moments : AreMoments rows

-- a run that the matches ask for
pub record IsRunOf (met : Met) (job : Job) (times : Times) (usage : UsageAsked) (apart : FilesAsked) (zone : Option (String Global)) (files : List FileArg) : Type 0 where
  pub named : AsksFor job.report met
  pub runnable : IsRunnable job
  pub form : AsksForm job.report (rows_met met) job.form
  pub few_askers : job.askers ≤ 64
  pub all_is_asked : (job.askers ≡ 0) ⊎ (job.report ≡ report.All)
  pub options : SetsJob (rows_met met) job
  pub moments : times ≡ times_in job.report (rows_met met)
  pub until : TakesUntil job.report times.until
  pub usage_words : IsUsageAsked (rows_met met) usage
  pub told_apart : IsFilesAsked (rows_met met) apart
  pub zone_word : IsZoneOf (rows_met met) zone
  pub sound : AreSound (rows_met met)
  pub some_file : job.report ≡ report.All → 0 < length files
  pub names_files : NamesFiles job.report (file_words met) files

-- the matches are of `check`
abbrev pub AsksCheck : Met → Type 0
AsksCheck met = option_map (λ found. found.0) met ≡ Some (codes "check")

-- a check that the matches ask for: each file word is a path
pub record IsCheckOf (met : Met) (check : Check) : Type 0 where
  pub named : AsksCheck met
  pub form : IsFormOf (rows_met met) check.form
  pub paths : check.paths ≡ is_set (codes "paths") (rows_met met)
  pub offset : IsOffsetOf (rows_met met) check.offset
  pub in_range : IsOffset check.offset
  pub zone_word : IsZoneOf (rows_met met) check.zone
  pub sound : AreSound (rows_met met)
  pub some_file : 0 < length check.files.items
  pub names_files : map string_bytes check.files.items ≡ file_words met

-- `clap` answers with a text of its own: help, or the version
abbrev pub IsShown : ErrorKind → Type 0
IsShown k = (k ≡ kind.DisplayHelp) ⊎ (k ≡ kind.DisplayVersion)

-- `clap` ends the words so
abbrev pub EndSo : (ErrorKind → Type 0) → List Text → Type 0
EndSo Is words = (k : ErrorKind) × IsAmong k (fault_of tally_app words) × Is k

-- the words ask for help or the version
abbrev pub AskForHelp : List Text → Type 0
AskForHelp words = EndSo IsShown words

-- something is wrong with the words
abbrev pub AreMistaken : List Text → Type 0
AreMistaken words = EndSo (λ k. ¬ IsShown k) words

-- nothing is wrong with the words, and they ask for no help
abbrev pub AreAccepted : List Text → Type 0
AreAccepted words = fault_of tally_app words ≡ []

-- the answer to words
abbrev pub Answers : List Text → Line → Type 0
Answers words (line.Run job times usage apart zone files) = AreAccepted words × IsRunOf (met_in words) job times usage apart zone files.items
Answers words (line.Check check) = AreAccepted words × IsCheckOf (met_in words) check
Answers words (line.Help text) = AskForHelp words

-- why words are refused
abbrev pub Refuses : List Text → LineFault → Type 0
Refuses words fault.Memory = ⊤
Refuses words (fault.Usage text) = AreMistaken words ⊎ (AreAccepted words × ¬ AreSound (rows_met (met_in words)))
Refuses words (fault.Prefix index) =
    AreAccepted words × AsksFor report.All (met_in words) × IsFirstBare (file_words (met_in words)) index

-- why there is no word at a place: memory, or `clap` does not accept the words
abbrev pub HasNoWord : List Text → LineFault → Type 0
HasNoWord words fault.Memory = ⊤
HasNoWord words (fault.Usage text) = EndSo (λ k. ⊤) words
HasNoWord words (fault.Prefix index) = ⊥
