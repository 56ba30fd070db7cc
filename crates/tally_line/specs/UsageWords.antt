-- What a command line asks of a report on processes beside its job.
use Rattle.std.specs.Prelude.{◌≡◌, ◌≤◌, ℕ, List, Option, codes, length, map, option_map, slice_get, string_bytes, true}
use Rattle.std.specs.List.{All, range_with_len}
use Rattle.clap.specs.Walk.{first_of}
use Rattle.clap.specs.Words.{Row, Text}
use Rattle.tally_line.specs.Named.{words_of}
use Rattle.tally_line.specs.Options.{WritesIn, is_set, number_of}
use Rattle.tally_line.specs.Times.{is_given}
use Rattle.tally_line.specs.declared.line.UsageAsked.{UsageAsked}

-- eight places, each with the number that the word at that place writes
abbrev pub uids_of : List Text → List (Option ℕ)
uids_of words = map (λ k. option_map number_of (slice_get words k)) (range_with_len 0 8)

-- eight numbers of users at most
pub record AreUids (words : List Text) : Type 0 where
  pub few : length words ≤ 8
  pub each : All (WritesIn 0 4294967295) words

-- names of users are given for a report by user alone
abbrev pub HasUsersToName : List Row → Type 0
HasUsersToName rows = is_given (codes "names") rows ≡ true → is_set (codes "by_user") rows ≡ true

-- nothing is wrong with these words
pub record AreUsageWords (rows : List Row) : Type 0 where
  pub uids : AreUids (words_of (codes "uid") rows)
  pub names : HasUsersToName rows

-- what is asked: the word of `--names` is as it was given
pub record IsUsageAsked (rows : List Row) (asked : UsageAsked) : Type 0 where
  pub uids : asked.uids ≡ uids_of (words_of (codes "uid") rows)
  pub names : option_map string_bytes asked.names ≡ first_of (codes "names") rows
