use Rattle.std.proofs.lemmas.Result.{IfOk-equal}
use Rattle.tally_print.specs.inside.LocalTime.{clock_of}
use Rattle.tally_print.proofs.PathLemmas.{part_after_file_text}
use Rattle.tally_print.proofs.part_table.push_part_after_file.Goals as goal

pub returns : goal.returns
returns c =
    IfOk-equal c.push_within.result _ _ _ c.push_within.ensures
    (rw (c.in_ok-push_length.ensures, c.in_ok-push_ending.ensures, c.in_ok-push_start.ensures, c.in_ok-push_user_at.ensures) (part_after_file_text c.args.line.now.items (clock_of c.args.local.now) c.args.period.now c.args.stay.now))
