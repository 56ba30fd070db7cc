-- The command line of the program, as `clap` reads it.
use Rattle.std.specs.Prelude.{◌∷◌, ℕ, [], Some, true, codes, pos}
use Rattle.clap.specs.Lexer.{usize_max}
use Rattle.clap.specs.Simple.{on_top}
use Rattle.clap.specs.Words.{App, Rule, Text, new_app, new_rule, with_rule, with_subcommand}
use Rattle.clap.specs.declared.builder.action.ArgAction.TheVariants.{Append, SetTrue}
use Rattle.clap.specs.declared.builder.value_parser.ValueParser.{ValueParser}
use Rattle.clap.specs.declared.builder.value_parser.ValueParser.TheVariants.{NonEmptyString, Signed}

-- `-x`
abbrev pub flag_rule : Text → ℕ → Rule
flag_rule id letter = record (new_rule id) { short = Some letter; action = Some SetTrue }

-- an option with a number, which has a default
abbrev pub number_rule : Text → ValueParser → Text → Rule
number_rule name parser default = record (new_rule name) {
  long = Some name;
  value_names = 1;
  parser = Some parser;
  defaults = default ∷ [];
}

-- a number from `least` to `most`
abbrev pub between : ℕ → ℕ → ValueParser
between least most = Signed (pos least) (pos most)

-- `-n N` of `last` and `lastb`
abbrev pub limit_rule : Rule
limit_rule = record (new_rule (codes "limit")) {
  short = Some 110;
  value_names = 1;
  parser = Some (between 1 16777216);
}

-- `--name`
abbrev pub long_flag_rule : Text → Rule
long_flag_rule name = record (new_rule name) { long = Some name; action = Some SetTrue }

-- `--csv`
abbrev pub csv_rule : Rule
csv_rule = long_flag_rule (codes "csv")

-- `--paths`
abbrev pub paths_rule : Rule
paths_rule = long_flag_rule (codes "paths")

-- `--sum` of `lastb`
abbrev pub sum_rule : Rule
sum_rule = long_flag_rule (codes "sum")

-- `--by-file` of `ac` and `sa`
abbrev pub by_file_rule : Rule
by_file_rule = long_flag_rule (codes "by-file")

-- how many times 1,048,576 records are taken
abbrev pub millions_rule : Rule
millions_rule = number_rule (codes "millions") (between 1 16) (codes "1")

-- threads that read files
abbrev pub feeders_rule : Rule
feeders_rule = number_rule (codes "feeders") (between 1 64) (codes "4")

-- threads that ask reports
abbrev pub askers_rule : Rule
askers_rule = number_rule (codes "askers") (between 0 64) (codes "0")

-- minutes from UTC
abbrev pub minutes_rule : Text → Rule
minutes_rule name = number_rule name (between 0 1439) (codes "0")

-- minutes east of UTC
abbrev pub east_rule : Rule
east_rule = minutes_rule (codes "east")

-- minutes west of UTC
abbrev pub west_rule : Rule
west_rule = minutes_rule (codes "west")

-- `--name WORD`, any word
abbrev pub word_rule : Text → Rule
word_rule name = record (new_rule name) { long = Some name; value_names = 1 }

-- the same with a letter
abbrev pub lettered_rule : Text → ℕ → Rule
lettered_rule name letter = record (word_rule name) { short = Some letter }

-- the same, which may be repeated
abbrev pub repeated_rule : Text → Rule
repeated_rule name = record (word_rule name) { action = Some Append }

-- the moment up to which stays that nothing has ended are counted
abbrev pub until_rule : Rule
until_rule = word_rule (codes "until")

-- the zone whose local time is shown: any word but the empty one
abbrev pub zone_rule : Rule
zone_rule = record (new_rule (codes "zone")) {
  long = Some (codes "zone");
  value_names = 1;
  parser = Some NonEmptyString;
}

-- the files of a report, of which none has to be named
abbrev pub file_rule : Rule
file_rule = record (new_rule (codes "file")) {
  value_names = 1;
  range = Some (record { start_inclusive = 1; end_inclusive = usize_max });
}

-- those of `all` and of `check`: one has to be named
abbrev pub some_file_rule : Rule
some_file_rule = record file_rule { required = true }

-- `-f FILE` of `last`, `lastb` and `ac`: its words and those without an option are one list, in the order of the words
abbrev pub more_files_rule : Rule
more_files_rule = record file_rule { short = Some 102; action = Some Append }

-- the clock that times are shown by
abbrev pub with_clock : App → App
with_clock app = with_rule (with_rule (with_rule app east_rule) west_rule) zone_rule

-- the options that each report has after its own, and its files
abbrev pub with_files : Rule → App → App
with_files files app = with_rule (with_clock (with_rule app feeders_rule)) files

-- the same of a report that keeps records, where none has to be named, and `-f` names some, too
abbrev pub with_more_files : App → App
with_more_files app = with_files file_rule (with_rule (with_rule app more_files_rule) millions_rule)

-- the users and lines that a report is over
abbrev pub with_names : App → App
with_names app = with_rule (with_rule app (repeated_rule (codes "user"))) (repeated_rule (codes "line"))

-- the period that `ac` or `sa` is over
abbrev pub with_period : App → App
with_period app =
    with_rule (with_rule (with_rule app (word_rule (codes "from"))) (word_rule (codes "to"))) (word_rule (codes "in"))

-- the period that `last` or `lastb` is over
abbrev pub with_lettered_period : App → App
with_lettered_period app =
    with_rule (with_rule (with_rule app
    (lettered_rule (codes "from") 115))
    (lettered_rule (codes "to") 116))
    (word_rule (codes "in"))

-- what makes the report a table, and gives the table paths
abbrev pub with_table : App → App
with_table app = with_rule (with_rule app csv_rule) paths_rule

-- the same of a report that may be on each file by itself
abbrev pub with_file_table : App → App
with_file_table app = with_table (with_rule app by_file_rule)

-- `last`
abbrev pub last_app : App
last_app = with_more_files (with_table (with_rule (with_rule (with_lettered_period (with_names
    (with_rule (new_app (codes "last")) limit_rule)))
    (lettered_rule (codes "at") 112))
    until_rule))

-- `lastb`
abbrev pub attempts_app : App
attempts_app = with_more_files (with_table (with_lettered_period (with_names
    (with_rule (with_rule (new_app (codes "lastb")) limit_rule) sum_rule))))

-- `ac`
abbrev pub connect_app : App
connect_app = with_more_files (with_file_table (with_rule (with_period (with_names (with_rule (with_rule (new_app (codes "ac"))
    (flag_rule (codes "by_day") 100))
    (flag_rule (codes "by_user") 112))))
    until_rule))

-- the flags of `sa`
abbrev pub with_usage_flags : App → App
with_usage_flags app = with_rule (with_rule (with_rule (with_rule app
    (flag_rule (codes "keep_all") 97))
    (flag_rule (codes "by_user") 109))
    (flag_rule (codes "by_calls") 110))
    (flag_rule (codes "reverse") 114)

-- `sa`
abbrev pub usage_app : App
usage_app = with_files file_rule (with_file_table (with_rule (with_period (with_rule (with_usage_flags (new_app (codes "sa")))
    (repeated_rule (codes "uid"))))
    (word_rule (codes "names"))))

-- `all`
abbrev pub all_app : App
all_app = with_files some_file_rule (with_rule (with_rule (with_rule (new_app (codes "all"))
    askers_rule)
    until_rule)
    millions_rule)

-- `check`
abbrev pub check_app : App
check_app = with_rule (with_clock (with_table (new_app (codes "check")))) some_file_rule

-- words without a program's name, of which one names a subcommand; `--version` is taken too
abbrev pub top_app : App
top_app = on_top (λ s. record s { no_binary_name = true; subcommand_required = true; has_version = true })
    (new_app (codes "tally"))

-- the whole command line
unfoldable pub tally_app : App
tally_app = with_subcommand (with_subcommand (with_subcommand (with_subcommand (with_subcommand (with_subcommand top_app
    last_app.top) attempts_app.top) connect_app.top) usage_app.top) all_app.top) check_app.top
