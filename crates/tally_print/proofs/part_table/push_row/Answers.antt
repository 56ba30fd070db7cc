use Rattle.std.proofs.lemmas.Result.{IfOk-equal}
use Rattle.tally_print.specs.inside.LocalTime.{clock_of}
use Rattle.tally_print.proofs.StayTableLemmas.{part_row_text}
use Rattle.tally_print.proofs.part_table.push_row.Goals as goal

pub returns : goal.returns
returns c =
    IfOk-equal c.push_within.result _ _ _ c.push_within.ensures
    (rw (c.in_ok-push_length.ensures, c.in_ok-push_ending.ensures, c.in_ok-push_start.ensures, c.in_ok-push_who.ensures) (part_row_text c.args.line.now.items (clock_of c.args.local.now) c.args.period.now c.args.stay.now))
