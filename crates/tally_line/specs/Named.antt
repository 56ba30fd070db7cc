-- The users and the lines that a command line names.
use Rattle.std.specs.Prelude.{◌≤◌, List, [], Option, codes, length, map, option_map, slice_get, unwrap_or}
use Rattle.std.specs.List.{All, range_with_len}
use Rattle.clap.specs.Words.{Row, Text, all_of}
use Rattle.tally_records.specs.Period.{always}
use Rattle.tally_records.specs.Text.{padded}
use Rattle.tally_records.specs.declared.choice.LoginChoice.{LoginChoice}

-- the words of an option that may be repeated
abbrev pub words_of : Text → List Row → List Text
words_of id rows = unwrap_or (all_of id rows) []

-- eight places, each with the name at that place, followed by zeros up to 32 bytes
abbrev pub names_of : List Text → List (Option Text)
names_of words = map (λ k. option_map (padded 32) (slice_get words k)) (range_with_len 0 8)

-- the sessions that are chosen, before the period is known
abbrev pub login_choice : List Row → LoginChoice
login_choice rows = record {
  users = names_of (words_of (codes "user") rows);
  lines = names_of (words_of (codes "line") rows);
  period = always;
}

-- a name that a record can have
pub record IsName (word : Text) : Type 0 where
  pub some : 1 ≤ length word
  pub fits : length word ≤ 32

-- eight names at most
pub record AreNames (words : List Text) : Type 0 where
  pub few : length words ≤ 8
  pub each : All IsName words

-- nothing is wrong with the words that name
pub record AreNamed (rows : List Row) : Type 0 where
  pub users : AreNames (words_of (codes "user") rows)
  pub lines : AreNames (words_of (codes "line") rows)
