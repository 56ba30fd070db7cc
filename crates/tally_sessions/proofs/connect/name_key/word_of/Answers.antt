use Rattle.tally_sessions.specs.inside.Names.{word_of}
use Rattle.tally_sessions.proofs.connect.name_key.word_of.Goals as goal

pub returns : goal.returns
unfolding word_of
returns c = c.from_be_bytes.ensures
