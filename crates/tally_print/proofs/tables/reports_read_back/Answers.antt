use Rattle.tally_print.proofs.ReadLemmas.{report_reads_back}
use Rattle.tally_print.proofs.tables.reports_read_back.Goals as goal

pub returns : goal.returns
returns c = report_reads_back
