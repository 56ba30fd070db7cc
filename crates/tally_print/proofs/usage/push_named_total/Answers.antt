use Rattle.std.proofs.lemmas.List.{append_assoc}
use Rattle.tally_print.specs.UsageText.{named_total_line}
use Rattle.tally_print.proofs.usage.push_named_total.Goals as goal

pub returns : goal.returns
unfolding named_total_line
returns c =
    rw (c.in_ok-push-2.ensures.items, c.in_ok-push_columns.ensures, c.in_ok-push.ensures.items, c.in_ok-push_left.ensures)
    (simp append_assoc)
