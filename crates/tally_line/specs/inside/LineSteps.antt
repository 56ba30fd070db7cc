-- What each step answers to the words of a command line.
use Rattle.std.specs.Char.{is_ascii_digit}
use Rattle.std.specs.Prelude.{◌≡◌, ◌<◌, ◌⊎◌, ◌∷◌, ◌++◌, ℕ, Bool, List, [], ⊤, codes, false, length, true}
use Rattle.clap.specs.Words.{Text}
use Rattle.clap.specs.declared.error.kind.ErrorKind.{ErrorKind}
use Rattle.tally_line.specs.FileWords.{HasPrefix, IsFirstBare}
use Rattle.tally_line.specs.declared.job.Report.{Report}
use Rattle.tally_line.specs.declared.line.Line.{Line}
use Rattle.tally_line.specs.declared.line.LineFault.{LineFault}
use Rattle.tally_line.specs.Lines.{Met, file_words, rows_met, AsksCheck, AsksFor, AreSound, IsCheckOf, IsRunOf, IsShown}
use Rattle.tally_line.specs.declared.job.Report.TheVariants as report
use Rattle.tally_line.specs.declared.line.Line.TheVariants as line
use Rattle.tally_line.specs.declared.line.LineFault.TheVariants as fault

-- the answer to matches
abbrev pub IsLineOf : Met → Line → Type 0
IsLineOf met (line.Run job times usage apart zone files) = IsRunOf met job times usage apart zone files.items
IsLineOf met (line.Check check) = IsCheckOf met check
IsLineOf met (line.Help text) = ⊥

-- why complete matches are refused
abbrev pub IsFaultOf : Met → LineFault → Type 0
IsFaultOf met fault.Memory = ⊤
IsFaultOf met (fault.Usage text) = ¬ AreSound (rows_met met)
IsFaultOf met (fault.Prefix index) = AsksFor report.All met × IsFirstBare (file_words met) index

-- why the word at an index names no file to a report
abbrev pub IsWordFault : Report → ℕ → Text → LineFault → Type 0
IsWordFault r index word fault.Memory = ⊤
IsWordFault r index word (fault.Usage text) = ⊥
IsWordFault r index word (fault.Prefix at) = (at ≡ index) × (r ≡ report.All) × ¬ HasPrefix word

-- why words name no files to a report
abbrev pub IsFileFault : Report → List Text → LineFault → Type 0
IsFileFault r words fault.Memory = ⊤
IsFileFault r words (fault.Usage text) = ⊥
IsFileFault r words (fault.Prefix index) = (r ≡ report.All) × IsFirstBare words index

-- the answer where `clap` ends the words with a kind
abbrev pub IsHelpFor : ErrorKind → Line → Type 0
IsHelpFor k (line.Run job times usage apart _ files) = ⊥
IsHelpFor k (line.Check check) = ⊥
IsHelpFor k (line.Help text) = IsShown k

-- why there is none then
abbrev pub IsFaultFor : ErrorKind → LineFault → Type 0
IsFaultFor k fault.Memory = ⊤
IsFaultFor k (fault.Usage text) = ¬ IsShown k
IsFaultFor k (fault.Prefix index) = ⊥

-- a fault of no file
abbrev pub IsMemoryOrUsage : LineFault → Type 0
IsMemoryOrUsage fault.Memory = ⊤
IsMemoryOrUsage (fault.Usage text) = ⊤
IsMemoryOrUsage (fault.Prefix index) = ⊥

-- whether a text begins with a digit
abbrev pub begins_with_digit : List ℕ → Bool
begins_with_digit [] = false
begins_with_digit (first ∷ rest) = is_ascii_digit first

-- the text refuses an argument that is a negative number: a minus and a digit
abbrev pub IsNegativeRefused : List ℕ → Type 0
IsNegativeRefused text = (rest : List ℕ) × (text ≡ codes "error: unexpected argument '-" ++ rest) × (begins_with_digit rest ≡ true)

-- the matches are of a report
abbrev pub AsksReport : Met → Type 0
AsksReport met = (r : Report) × AsksFor r met

-- the matches are of a subcommand that has no file where none is named
abbrev pub WantsFile : Met → Type 0
WantsFile met = AsksFor report.All met ⊎ AsksCheck met

-- the matches are of a report or of `check`, and name a file where one is wanted
pub record IsComplete (met : Met) : Type 0 where
  pub named : AsksReport met ⊎ AsksCheck met
  pub file : WantsFile met → 0 < length (file_words met)
