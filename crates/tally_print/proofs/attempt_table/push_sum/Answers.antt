use Rattle.tally_print.proofs.AttemptTableLemmas.{sum_row_text}
use Rattle.tally_print.proofs.attempt_table.push_sum.Goals as goal

pub returns : goal.returns
returns c =
    rw (c.in_ok-push.ensures.items, c.in_ok-push_number.ensures, c.in_ok-push_text-2.ensures, c.in_ok-push_text.ensures) (sum_row_text c.args.line.now.items c.args.sum.now)
