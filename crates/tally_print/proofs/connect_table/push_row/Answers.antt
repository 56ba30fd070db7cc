use Rattle.std.proofs.lemmas.List.{append_assoc}
use Rattle.std.proofs.lemmas.Result.{IfOk-equal}
use Rattle.tally_print.proofs.ConnectTableLemmas.{connect_row_text}
use Rattle.tally_print.proofs.connect_table.push_row.Goals as goal

pub returns : goal.returns
returns c =
    IfOk-equal c.push_seconds.result _ _ _ c.push_seconds.ensures
    (rw (connect_row_text c.args.by_day c.args.by_user c.args.row.now, c.in_ok-push_user.ensures, c.in_ok-push_day.ensures) (simp append_assoc))
