use Rattle.tally_print.proofs.PageLemmas.{fills_then}
use Rattle.tally_print.proofs.lines.print_lines.Goals as goal

pub returns : goal.returns
returns g c = record { writes = fills_then c.in_ok-put_lines.ensures.fills (rw c.as_slice.ensures.value at c.put_all.ensures.writes) }
