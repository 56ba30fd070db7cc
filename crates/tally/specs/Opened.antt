-- What is read of the files of the command line.
use Rattle.std.specs.Prelude.{◌≡◌, ◌⊎◌, ℕ, List, length, slice_index_or, string_bytes}
use Rattle.tally.specs.Places.{AllAt, StopsAt}
use Rattle.tally.specs.declared.opening.OpenFault.{OpenFault}
use Rattle.tally.specs.declared.opening.OpenFault.TheVariants.{Memory}
use Rattle.tally_cli.specs.declared.running.source.Source.{Source}
use Rattle.tally_desk.specs.Reading.{ReadingState}
use Rattle.tally_line.specs.declared.line.FileArg.{FileArg}
use Rattle.tally_records.specs.declared.batch.Kind.{Kind}
use Rattle.tally_terminal.specs.Progress.{followed_file, followed_path}
use Rattle.tally_terminal.specs.declared.progress.Followed.{Followed}

-- a source over what is followed of a file
abbrev pub FileSource : Type 0 → Type 0 → Type 0
FileSource R F = Source (ReadingState (Followed R F))

-- a source is of a file: of its kind, over what was opened of its path, and shown by that path
pub record IsSourceOf {R F : Type 0} (opens : Kind → List ℕ → F → Type 0) (file : FileArg) (source : FileSource R F) : Type 0 where
  pub kind : source.kind ≡ file.kind
  pub opened : opens file.kind (string_bytes file.path) (followed_file source.input.reader)
  pub path : followed_path source.input.reader ≡ string_bytes file.path

-- this is so of the file at a place
abbrev pub IsSourceAt : {R F : Type 0} → (Kind → List ℕ → F → Type 0) → List FileArg → ℕ → FileSource R F → Type 0
IsSourceAt opens files at source = (file : FileArg) → IsSourceOf opens (slice_index_or files at file) source

-- this is why the file at a place was refused
abbrev pub IsRefusedAt : (Kind → List ℕ → OpenFault → Type 0) → List FileArg → ℕ → OpenFault → Type 0
IsRefusedAt refuses files at fault = (file : FileArg) → refuses (slice_index_or files at file).kind (string_bytes (slice_index_or files at file).path) fault

-- the sources are of these files, one of each, in their order
pub record AreSourcesOf {R F : Type 0} (opens : Kind → List ℕ → F → Type 0) (files : List FileArg) (sources : List (FileSource R F)) : Type 0 where
  pub count : length sources ≡ length files
  pub each : AllAt (IsSourceAt opens files) sources

-- memory was wanting, or this is why the first file that is refused was
abbrev pub IsFirstRefused : (R : Type 0) → {F : Type 0} → (Kind → List ℕ → F → Type 0) → (Kind → List ℕ → OpenFault → Type 0) → List FileArg → OpenFault → Type 0
IsFirstRefused R {F} opens refuses files fault = (fault ≡ Memory) ⊎ ((before : List (FileSource R F)) × StopsAt (IsSourceAt opens files) (IsRefusedAt refuses files) (length files) before fault)
