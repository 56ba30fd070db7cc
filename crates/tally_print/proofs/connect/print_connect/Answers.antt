use Rattle.std.proofs.Common.{rules}
use Rattle.tally_print.specs.declared.output.PrintFault.TheVariants.{Memory}
use Rattle.tally_print.proofs.PageLemmas.{fills_push, fills_then, page_stop}
use Rattle.tally_print.proofs.connect.print_connect.Goals as goal

pub returns-in_err-put_lines : goal.returns-in_err-put_lines
returns-in_err-put_lines g c = record { writes = page_stop _ (search rules) _ (rw c.in_ok-page.ensures at c.in_err-put_lines.ensures.fills) }

pub returns-in_err-push_row : goal.returns-in_err-push_row
returns-in_err-push_row g c = record { writes = page_stop Memory (search rules) _ (rw c.in_ok-page.ensures at c.in_ok-put_lines.ensures.fills) }

pub returns : goal.returns
returns g c = record {
  writes = fills_then (fills_push _ (rw c.in_ok-page.ensures at c.in_ok-put_lines.ensures.fills) (rw c.total_row.ensures at c.in_ok-push_row.ensures)) (rw c.as_slice.ensures.value at c.put_all.ensures.writes);
}
