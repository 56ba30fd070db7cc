use Rattle.tally_line.proofs.NamedLemmas.{name_is}
use Rattle.tally_line.proofs.named.name_of.Goals as goal

pub returns : goal.returns
returns c = name_is c.args.word.now _ c.copy_from_slice.ensures.after
