use Rattle.std.proofs.Common.{None, Some, ap, refl, sym}
use Rattle.std.specs.Prelude.{slice_get}
use Rattle.std.proofs.lemmas.Option.{slice_get_past, slice_get_read}
use Rattle.clap.specs.Words.{Text, found_of}
use Rattle.std.specs.Prelude.{List}
use Rattle.tally_line.proofs.GivenLemmas.{no_words, some_words, word_is}
use Rattle.tally_line.proofs.given.word_at.Goals as goal

pub returns-in_default : goal.returns-in_default
returns-in_default c = sym (ap (λ (ws : List Text). slice_get ws c.args.at) (no_words (found_of c.args.matches.now) c.args.id.now c.in_default.ensures))

pub returns-in-Some-get : goal.returns-in-Some-get
returns-in-Some-get c =
    word_is _ c.in-Some.words.now c.args.at (Some c.in-Some-get.word.now) (some_words (found_of c.args.matches.now) c.args.id.now c.in-Some.words.now c.in-Some.ensures)
    (slice_get_read _ _ _ _ refl c.in-Some-get.ensures.lookup.3.0 c.in-Some-get.ensures.lookup.1)

pub returns-in-None : goal.returns-in-None
returns-in-None c =
    word_is _ c.in-Some.words.now c.args.at None (some_words (found_of c.args.matches.now) c.args.id.now c.in-Some.words.now c.in-Some.ensures) (slice_get_past _ _ c.in-None.ensures.lookup.3)
