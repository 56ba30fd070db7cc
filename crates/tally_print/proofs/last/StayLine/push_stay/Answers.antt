use Rattle.std.proofs.lemmas.List.{append_assoc}
use Rattle.tally_print.specs.LastText.{stay_line}
use Rattle.tally_print.proofs.last.StayLine.push_stay.Goals as goal

pub returns : goal.returns
unfolding stay_line
returns c =
    rw (c.in_ok-push-4.ensures.items, c.in_ok-push_ending.ensures, c.in_ok-push_start.ensures, c.in_ok-push-3.ensures.items, c.in_ok-push_left_shown.ensures, c.in_ok-push-2.ensures.items, c.in_ok-push_column-2.ensures, c.in_ok-push.ensures.items, c.in_ok-push_column.ensures)
    (simp append_assoc)
