-- Worked options of each subcommand, computed by the definitions.
use Rattle.std.proofs.Common.{◌≡◌, ◌==◌, Bool, List, [], ◌∷◌, ◌++◌, None, Some, false, length, map, refl, replicate, true}
use Rattle.std.specs.Prelude.{codes}
use Rattle.clap.proofs.OnLiterals.{clap_on_literals}
use Rattle.clap.specs.Words.{Text, all_of, fault_of}
use Rattle.clap.specs.declared.error.kind.ErrorKind.{ErrorKind}
use Rattle.clap.specs.declared.error.kind.ErrorKind.TheVariants.{ArgumentConflict, DisplayHelp, DisplayVersion, InvalidSubcommand, InvalidValue, MissingSubcommand, UnknownArgument, ValueValidation}
use Rattle.clap.specs.declared.parser.matches.ValueSource.TheVariants.{CommandLine, DefaultValue}
use Rattle.tally_line.specs.CommandLine.{tally_app}
use Rattle.tally_line.specs.Lines.{file_words, met_in}
use Rattle.tally_line.specs.Times.{is_given}
use Rattle.tally_line.specs.Zones.{source_of}
use Rattle.tally_line.proofs.WorkedAsking.{matches_of}

-- ---- what each subcommand takes

-- which of these words a subcommand takes beside a file
abbrev takes : Text → List Text → List Bool
takes name = map (λ word. length (fault_of tally_app (name ∷ word ∷ codes "w:f" ∷ [])) == 0)

-- what names sessions or users of processes, and what says moments
abbrev choosing : List Text
choosing = codes "--user=ann" ∷ codes "--line=tty1" ∷ codes "--uid=0" ∷ codes "--from=now" ∷ codes "--to=now" ∷ codes "--in=2026" ∷ codes "--at=now" ∷ codes "--until=now" ∷ []

-- `last`, `lastb` and `ac` choose users and lines, `sa` numbers, each a period, and `last` a second; `last`, `ac` and `all` count to a moment
chosen_by : map (λ name. takes name choosing) (codes "last" ∷ codes "lastb" ∷ codes "ac" ∷ codes "sa" ∷ codes "all" ∷ codes "check" ∷ [])
    ≡ (true ∷ true ∷ false ∷ true ∷ true ∷ true ∷ true ∷ true ∷ [])
    ∷ (true ∷ true ∷ false ∷ true ∷ true ∷ true ∷ false ∷ false ∷ [])
    ∷ (true ∷ true ∷ false ∷ true ∷ true ∷ true ∷ false ∷ true ∷ [])
    ∷ (false ∷ false ∷ true ∷ true ∷ true ∷ true ∷ false ∷ false ∷ [])
    ∷ (false ∷ false ∷ false ∷ false ∷ false ∷ false ∷ false ∷ true ∷ [])
    ∷ (false ∷ false ∷ false ∷ false ∷ false ∷ false ∷ false ∷ false ∷ [])
    ∷ []
unfolding tally_app clap_on_literals
chosen_by = refl

-- how files are read, and on which clock times are shown
abbrev reading : List Text
reading = codes "--feeders=1" ∷ codes "--askers=0" ∷ codes "--east=0" ∷ codes "--west=0" ∷ codes "--zone=UTC" ∷ []

-- each shows times on a clock, each report has feeders, and that of all has askers
read_by : map (λ name. takes name reading) (codes "last" ∷ codes "lastb" ∷ codes "ac" ∷ codes "sa" ∷ codes "all" ∷ codes "check" ∷ [])
    ≡ (true ∷ false ∷ true ∷ true ∷ true ∷ [])
    ∷ (true ∷ false ∷ true ∷ true ∷ true ∷ [])
    ∷ (true ∷ false ∷ true ∷ true ∷ true ∷ [])
    ∷ (true ∷ false ∷ true ∷ true ∷ true ∷ [])
    ∷ (true ∷ true ∷ true ∷ true ∷ true ∷ [])
    ∷ (false ∷ false ∷ true ∷ true ∷ true ∷ [])
    ∷ []
unfolding tally_app clap_on_literals
read_by = refl

-- each but a report of all is a table on demand; sums are for `lastb`, reports by file for `ac` and `sa`, names of users for `sa`
shown_by : map (λ name. takes name (codes "--csv" ∷ codes "--sum" ∷ codes "--by-file" ∷ codes "--names=f" ∷ [])) (codes "last" ∷ codes "lastb" ∷ codes "ac" ∷ codes "sa" ∷ codes "all" ∷ codes "check" ∷ [])
    ≡ (true ∷ false ∷ false ∷ false ∷ [])
    ∷ (true ∷ true ∷ false ∷ false ∷ [])
    ∷ (true ∷ false ∷ true ∷ false ∷ [])
    ∷ (true ∷ false ∷ true ∷ true ∷ [])
    ∷ (false ∷ false ∷ false ∷ false ∷ [])
    ∷ (true ∷ false ∷ false ∷ false ∷ [])
    ∷ []
unfolding tally_app clap_on_literals
shown_by = refl

-- what is wrong with each letter at the end of the words
abbrev letter_faults : Text → List (List ErrorKind)
letter_faults name = map (λ letter. fault_of tally_app (name ∷ letter ∷ []))
    (codes "-a" ∷ codes "-d" ∷ codes "-f" ∷ codes "-m" ∷ codes "-n" ∷ codes "-p" ∷ codes "-r" ∷ codes "-s" ∷ codes "-t" ∷ [])

-- the letter is unknown, wants a word, or is a flag
abbrev unknown : List ErrorKind
unknown = UnknownArgument ∷ []

abbrev wants : List ErrorKind
wants = InvalidValue ∷ []

abbrev flag : List ErrorKind
flag = []

-- the letters of each subcommand are those of its peer
all_letters : map letter_faults (codes "last" ∷ codes "lastb" ∷ codes "ac" ∷ codes "sa" ∷ codes "all" ∷ codes "check" ∷ [])
    ≡ (unknown ∷ unknown ∷ wants ∷ unknown ∷ wants ∷ wants ∷ unknown ∷ wants ∷ wants ∷ [])
    ∷ (unknown ∷ unknown ∷ wants ∷ unknown ∷ wants ∷ unknown ∷ unknown ∷ wants ∷ wants ∷ [])
    ∷ (unknown ∷ flag ∷ wants ∷ unknown ∷ unknown ∷ flag ∷ unknown ∷ unknown ∷ unknown ∷ [])
    ∷ (flag ∷ unknown ∷ unknown ∷ flag ∷ flag ∷ unknown ∷ flag ∷ unknown ∷ unknown ∷ [])
    ∷ replicate 9 unknown
    ∷ replicate 9 unknown
    ∷ []
unfolding tally_app clap_on_literals
all_letters = refl

-- ---- numbers

-- what is wrong with an option at each number
abbrev number_faults : Text → Text → List Text → List (List ErrorKind)
number_faults name option = map (λ number. fault_of tally_app (name ∷ codes "w:f" ∷ option ∷ number ∷ []))

abbrev out_of_range : List ErrorKind
out_of_range = ValueValidation ∷ []

-- no stays and no failed logins are no number of them, and one is
fewest_shown : number_faults (codes "last") (codes "-n") (codes "0" ∷ codes "1" ∷ []) ++ number_faults (codes "lastb") (codes "-n") (codes "0" ∷ codes "1" ∷ codes "16777216" ∷ codes "16777217" ∷ [])
    ≡ out_of_range ∷ [] ∷ out_of_range ∷ [] ∷ [] ∷ out_of_range ∷ []
unfolding tally_app clap_on_literals
fewest_shown = refl

-- from 1 to 64 threads read, and up to 64 ask
threads : number_faults (codes "sa") (codes "--feeders") (codes "0" ∷ codes "1" ∷ codes "64" ∷ codes "65" ∷ []) ++ number_faults (codes "all") (codes "--askers") (codes "0" ∷ codes "64" ∷ codes "65" ∷ [])
    ≡ out_of_range ∷ [] ∷ [] ∷ out_of_range ∷ [] ∷ [] ∷ out_of_range ∷ []
unfolding tally_app clap_on_literals
threads = refl

-- offsets are less than a day, and what is no number is none
minutes : map (λ option. number_faults (codes "check") option (codes "0" ∷ codes "1439" ∷ codes "1440" ∷ codes "x" ∷ codes "" ∷ [])) (codes "--east" ∷ codes "--west" ∷ [])
    ≡ ([] ∷ [] ∷ out_of_range ∷ out_of_range ∷ out_of_range ∷ []) ∷ ([] ∷ [] ∷ out_of_range ∷ out_of_range ∷ out_of_range ∷ []) ∷ []
unfolding tally_app clap_on_literals
minutes = refl

-- a zone has a name
empty_zone : map (λ zone. fault_of tally_app (codes "ac" ∷ codes "--zone" ∷ zone ∷ [])) (codes "" ∷ codes "UTC" ∷ []) ≡ (InvalidValue ∷ []) ∷ [] ∷ []
unfolding tally_app clap_on_literals
empty_zone = refl

-- ---- words that are left out, and words that come twice

-- without words 1,048,576 records are taken, four threads read, none asks, and times are those of UTC
defaults : map (λ id. all_of id (matches_of (codes "all" ∷ codes "w:f" ∷ []))) (codes "millions" ∷ codes "feeders" ∷ codes "askers" ∷ codes "east" ∷ codes "west" ∷ codes "zone" ∷ codes "until" ∷ [])
    ≡ Some (codes "1" ∷ []) ∷ Some (codes "4" ∷ []) ∷ Some (codes "0" ∷ []) ∷ Some (codes "0" ∷ []) ∷ Some (codes "0" ∷ []) ∷ None ∷ None ∷ []
unfolding tally_app clap_on_literals
defaults = refl

-- nothing is named or chosen then
no_choice : map (λ id. is_given id (matches_of (codes "last" ∷ []))) (codes "limit" ∷ codes "user" ∷ codes "line" ∷ codes "from" ∷ codes "to" ∷ codes "in" ∷ codes "at" ∷ codes "until" ∷ codes "zone" ∷ codes "file" ∷ []) ≡ replicate 10 false
unfolding tally_app clap_on_literals
no_choice = refl

-- a value is from the words where it stands there, and else the default
sources : map (λ id. source_of id (matches_of (codes "ac" ∷ codes "--east" ∷ codes "0" ∷ codes "--zone" ∷ codes "UTC" ∷ []))) (codes "east" ∷ codes "zone" ∷ codes "west" ∷ codes "from" ∷ []) ≡ Some CommandLine ∷ Some CommandLine ∷ Some DefaultValue ∷ None ∷ []
unfolding tally_app clap_on_literals
sources = refl

-- users, lines, numbers of users and files may be repeated
repeated : map (fault_of tally_app) ((codes "last" ∷ codes "--user=a" ∷ codes "--user=b" ∷ codes "--line=c" ∷ codes "--line=d" ∷ codes "-fa" ∷ codes "-fb" ∷ []) ∷ (codes "sa" ∷ codes "--uid=1" ∷ codes "--uid=2" ∷ []) ∷ []) ≡ [] ∷ [] ∷ []
unfolding tally_app clap_on_literals
repeated = refl

-- no other option may
not_repeated : map (λ word. fault_of tally_app (codes "last" ∷ word ∷ word ∷ [])) (codes "-n1" ∷ codes "--from=now" ∷ codes "--to=now" ∷ codes "--in=2026" ∷ codes "--at=now" ∷ codes "--until=now" ∷ codes "--csv" ∷ codes "--paths" ∷ codes "--millions=1" ∷ codes "--feeders=1" ∷ codes "--east=1" ∷ codes "--west=1" ∷ codes "--zone=UTC" ∷ [])
    ≡ replicate 13 (ArgumentConflict ∷ [])
unfolding tally_app clap_on_literals
not_repeated = refl

-- an empty word and a dash are files, and so is what follows two dashes
odd_files : map (λ words. file_words (met_in (codes "last" ∷ words))) ((codes "" ∷ codes "-" ∷ []) ∷ (codes "--" ∷ codes "-n" ∷ codes "--csv" ∷ []) ∷ []) ≡ (codes "" ∷ codes "-" ∷ []) ∷ (codes "-n" ∷ codes "--csv" ∷ []) ∷ []
unfolding tally_app clap_on_literals
odd_files = refl

-- ---- the program

-- words name a subcommand, and ask for help or the version
top : map (fault_of tally_app) ([] ∷ (codes "who" ∷ []) ∷ (codes "--csv" ∷ []) ∷ (codes "--help" ∷ []) ∷ (codes "-h" ∷ []) ∷ (codes "--version" ∷ []) ∷ (codes "-V" ∷ []) ∷ (codes "last" ∷ codes "--help" ∷ []) ∷ (codes "last" ∷ codes "--version" ∷ []) ∷ [])
    ≡ (MissingSubcommand ∷ []) ∷ (UnknownArgument ∷ InvalidSubcommand ∷ []) ∷ unknown ∷ (DisplayHelp ∷ []) ∷ (DisplayHelp ∷ []) ∷ (DisplayVersion ∷ []) ∷ (DisplayVersion ∷ []) ∷ (DisplayHelp ∷ []) ∷ unknown ∷ []
unfolding tally_app clap_on_literals
top = refl
