use Rattle.std.proofs.Common.{◌≡◌, ◌<◌, ℕ, None, codes, get_or, length}
use Rattle.std.specs.Prelude.{option_map, slice_get}
use Rattle.clap.specs.Words.{found_of, rows_of}
use Rattle.tally_line.specs.Named.{words_of}
use Rattle.tally_line.specs.Options.{number_of}
use Rattle.tally_line.proofs.usage_words.uids_of.Given as goal

abbrev pub invariant-loop-at : goal.invariant-loop-at
invariant-loop-at l = record {
  len : length l.uids ≡ 8;
  filled : (k : ℕ) → k < l.at → get_or l.uids k None ≡ option_map (number_of) (slice_get (words_of (codes "uid") (rows_of (found_of l.matches))) k);
}
