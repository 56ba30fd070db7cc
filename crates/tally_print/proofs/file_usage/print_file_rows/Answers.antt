use Rattle.std.proofs.Common.{subst}
use Rattle.tally_print.specs.FileColumns.{columns_of}
use Rattle.tally_print.specs.Output.{Prints}
use Rattle.tally_print.proofs.FileLemmas.{rows_after_text}
use Rattle.tally_print.proofs.file_usage.print_file_rows.Goals as goal

pub returns : goal.returns
returns g c =
    let fields = g.F.Fields.fields c.args.fields.now in
    record { writes = subst (Prints _ _ _ _) (rows_after_text (columns_of c.args.file) fields c.requires.wide c.args.rows.now) (rw (c.as_slice.ensures.value, c.in_ok-head.ensures) at c.print_after.ensures.writes) }
