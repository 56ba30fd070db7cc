use Rattle.tally_print.proofs.TableLemmas.{reads_back}
use Rattle.tally_print.proofs.tables.a_table_reads_back.Goals as goal

pub returns : goal.returns
returns c = reads_back
