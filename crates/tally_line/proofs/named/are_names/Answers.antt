use Rattle.std.proofs.Common.{rules}
use Rattle.clap.specs.Words.{found_of}
use Rattle.tally_line.proofs.GivenLemmas.{no_words, some_words}
use Rattle.tally_line.proofs.named.are_names.Goals as goal

pub returns-in-Some : goal.returns-in-Some
returns-in-Some c = rw (some_words (found_of c.args.matches.now) c.args.id.now c.in-Some.words.now c.in-Some.ensures) c.all_names.ensures

pub returns-in-None : goal.returns-in-None
returns-in-None c = rw (no_words (found_of c.args.matches.now) c.args.id.now c.in-None.ensures) (search rules)
