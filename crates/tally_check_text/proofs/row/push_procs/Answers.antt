use Rattle.std.proofs.lemmas.Result.{IfOk-equal}
use Rattle.tally_check_text.specs.CheckTable.{empty, proc_counts, proc_doubts, span_fields}
use Rattle.tally_check_text.specs.inside.LocalTime.{clock_of}
use Rattle.tally_check_text.proofs.RowLemmas.{four_joined}
use Rattle.tally_check_text.proofs.row.push_procs.Goals as goal

pub returns : goal.returns
returns c =
    let found = c.args.found.now in
    IfOk-equal c.push_proc_doubts.result _ _ _ c.push_proc_doubts.ensures
    (rw (c.in_ok-push_cells.ensures, c.in_ok-push_span.ensures, c.in_ok-push_proc_counts.ensures)
    (four_joined c.args.text.now.items (proc_counts found) (span_fields (clock_of c.args.local.now) found.counts.span) (empty 4) (proc_doubts found)))
