use Rattle.std.proofs.Common.{◌≡◌, ◌++◌, ◌+◌, map, drop, vec_len, vec_capacity}
use Rattle.tally_records.specs.inside.Compact.Words.{text_words}
use Rattle.tally_records.specs.Text.{word_of}
use Rattle.tally_records.proofs.login.words.push_words.Given as goal

abbrev pub invariant-loop-chunk : goal.invariant-loop-chunk
invariant-loop-chunk l = record {
  room : vec_capacity l.words ≡ vec_capacity l.fn.words;
  len : vec_len l.words ≡ vec_len l.fn.words + l.chunk-index;
  told : l.words.items ++ text_words (map word_of (drop l.chunk-index l.chunks)) ≡ l.fn.words.items ++ text_words (map word_of l.chunks);
}
