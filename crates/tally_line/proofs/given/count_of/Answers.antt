use Rattle.std.proofs.Common.{ap, length, sym}
use Rattle.clap.specs.Words.{Text, found_of}
use Rattle.tally_line.proofs.GivenLemmas.{count_is, no_words, some_words}
use Rattle.tally_line.proofs.given.count_of.Goals as goal

pub returns-in-Some : goal.returns-in-Some
returns-in-Some c = count_is _ c.in-Some.words.now (some_words (found_of c.args.matches.now) c.args.id.now c.in-Some.words.now c.in-Some.ensures)

pub returns-in-None : goal.returns-in-None
returns-in-None c = sym (ap (length {A = Text}) (no_words (found_of c.args.matches.now) c.args.id.now c.in-None.ensures))
