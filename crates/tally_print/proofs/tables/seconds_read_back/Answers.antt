use Rattle.tally_print.proofs.ReadLemmas.{seconds_say}
use Rattle.tally_print.proofs.tables.seconds_read_back.Goals as goal

pub returns : goal.returns
returns c = seconds_say
