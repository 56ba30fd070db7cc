use Rattle.std.proofs.Common.{None, Some, refl}
use Rattle.std.proofs.lemmas.Option.{slice_get_past, slice_get_read}
use Rattle.clap.specs.Words.{found_of}
use Rattle.tally_line.proofs.LineLemmas.{no_file_words, no_word, some_file_words, word_found}
use Rattle.tally_line.proofs.words.word_under.Goals as goal

pub returns-in_default : goal.returns-in_default
returns-in_default c = no_word _ c.args.index (no_file_words (found_of c.args.matches.now) c.in_default.ensures)

pub returns-in-Some-get : goal.returns-in-Some-get
returns-in-Some-get c =
    word_found _ c.in-Some.words.now c.args.index (Some c.in-Some-get.word.now) (some_file_words (found_of c.args.matches.now) c.in-Some.words.now c.in-Some.ensures) (slice_get_read _ _ _ _ refl c.in-Some-get.ensures.lookup.3.0 c.in-Some-get.ensures.lookup.1)

pub returns-in-None : goal.returns-in-None
returns-in-None c =
    word_found _ c.in-Some.words.now c.args.index None (some_file_words (found_of c.args.matches.now) c.in-Some.words.now c.in-Some.ensures) (slice_get_past _ _ c.in-None.ensures.lookup.3)
