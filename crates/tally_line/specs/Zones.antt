-- The zone of a command line.
use Rattle.std.specs.Prelude.{◌≡◌, List, Option, Some, String, codes, find, option_and_then, option_map, string_bytes}
use Rattle.std.specs.Str.{bytes_eq}
use Rattle.std.specs.declared.alloc.Global.{Global}
use Rattle.clap.specs.Walk.{first_of}
use Rattle.clap.specs.Words.{Row, Text}
use Rattle.clap.specs.declared.parser.matches.ValueSource.{ValueSource}
use Rattle.clap.specs.declared.parser.matches.ValueSource.TheVariants.{CommandLine}

-- the word of `--zone` as it was given, where it was given
abbrev pub IsZoneOf : List Row → Option (String Global) → Type 0
IsZoneOf rows zone = option_map string_bytes zone ≡ first_of (codes "zone") rows

-- where the value of an option is from
abbrev pub source_of : Text → List Row → Option ValueSource
source_of id rows = option_and_then (λ r. r.source) (find (λ r. bytes_eq r.id id) rows)

-- an option stands among the words: its value is no default
abbrev pub IsWritten : Text → List Row → Type 0
IsWritten id rows = source_of id rows ≡ Some CommandLine

-- where a zone is written, no offset is
abbrev pub HasOneClock : List Row → Type 0
HasOneClock rows = IsWritten (codes "zone") rows → (¬ IsWritten (codes "east") rows) × (¬ IsWritten (codes "west") rows)
