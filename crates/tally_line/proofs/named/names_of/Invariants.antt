use Rattle.std.proofs.Common.{◌≡◌, ◌<◌, ℕ, None, get_or, length}
use Rattle.std.specs.Prelude.{option_map, slice_get}
use Rattle.clap.specs.Words.{found_of, rows_of}
use Rattle.tally_line.specs.Named.{words_of}
use Rattle.tally_records.specs.Text.{padded}
use Rattle.tally_line.proofs.named.names_of.Given as goal

abbrev pub invariant-loop-at : goal.invariant-loop-at
invariant-loop-at l = record {
  len : length l.names ≡ 8;
  filled : (k : ℕ) → k < l.at → get_or l.names k None ≡ option_map (padded 32) (slice_get (words_of l.id (rows_of (found_of l.matches))) k);
}
