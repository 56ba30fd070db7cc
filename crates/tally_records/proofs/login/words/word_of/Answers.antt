use Rattle.tally_records.specs.Text.{word_of}
use Rattle.tally_records.proofs.login.words.word_of.Goals as goal

pub returns : goal.returns
unfolding word_of
returns c = c.from_le_bytes.ensures
