-- How words name files.
use Rattle.std.specs.Prelude.{◌≡◌, ◌≢◌, ◌<◌, ◌++◌, ℕ, List, [], Option, None, Some, codes, length, map, take, slice_index_or, string_bytes, unwrap_or}
use Rattle.std.specs.List.{All}
use Rattle.clap.specs.Words.{Text}
use Rattle.tally_records.specs.declared.batch.Kind.{Kind}
use Rattle.tally_records.specs.declared.batch.Kind.TheVariants.{FailedLogin, Login, Proc}
use Rattle.tally_line.specs.declared.line.FileArg.{FileArg}
use Rattle.tally_line.specs.declared.job.Report.{Report}
use Rattle.tally_line.specs.declared.job.Report.TheVariants as report

-- the prefix that names the kind of a file where all reports are asked for, of which none reads failed logins
abbrev pub prefix_of : Kind → Option Text
prefix_of Login = Some (codes "w:")
prefix_of FailedLogin = None
prefix_of Proc = Some (codes "p:")

-- the word that names a file to a report
abbrev pub word_of : Report → Kind → Text → Text
word_of report.All kind path = unwrap_or (prefix_of kind) [] ++ path
word_of _ kind path = path

-- a report reads files of this kind
abbrev pub Reads : Report → Kind → Type 0
Reads (report.Last limit choice within) kind = kind ≡ Login
Reads (report.Attempts limit choice) kind = kind ≡ FailedLogin
Reads (report.AttemptSums limit choice) kind = kind ≡ FailedLogin
Reads (report.Connect by_day by_user choice) kind = kind ≡ Login
Reads (report.Commands order reverse all) kind = kind ≡ Proc
Reads (report.Users order reverse) kind = kind ≡ Proc
Reads report.All kind = prefix_of kind ≢ None

-- the words name these files to a report
pub record NamesFiles (r : Report) (words : List Text) (files : List FileArg) : Type 0 where
  pub each_word : words ≡ map (λ file. word_of r file.kind (string_bytes file.path)) files
  pub each_kind : All (λ file. Reads r file.kind) files

-- a word begins with the prefix of a kind
abbrev pub HasPrefix : Text → Type 0
HasPrefix word = (kind : Kind) × (prefix path : Text) × (prefix_of kind ≡ Some prefix) × (word ≡ prefix ++ path)

-- the word at this index is the first without a prefix
pub record IsFirstBare (words : List Text) (index : ℕ) : Type 0 where
  pub in_range : index < length words
  pub bare : ¬ HasPrefix (slice_index_or words index [])
  pub earlier : All HasPrefix (take index words)
