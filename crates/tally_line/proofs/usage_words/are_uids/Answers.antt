use Rattle.std.proofs.Common.{codes, rules}
use Rattle.clap.specs.Words.{found_of}
use Rattle.tally_line.proofs.GivenLemmas.{no_words, some_words}
use Rattle.tally_line.proofs.usage_words.are_uids.Goals as goal

pub returns-in-Some : goal.returns-in-Some
returns-in-Some c = rw (some_words (found_of c.args.matches.now) (codes "uid") c.in-Some.words.now c.in-Some.ensures) c.all_uids.ensures

pub returns-in-None : goal.returns-in-None
returns-in-None c = rw (no_words (found_of c.args.matches.now) (codes "uid") c.in-None.ensures) (search rules)
