use Rattle.std.proofs.Common.{subst}
use Rattle.tally_print.specs.Output.{Prints}
use Rattle.tally_print.proofs.PathLemmas.{paths_of_rows}
use Rattle.tally_print.proofs.path_table.print_path_rows.Goals as goal

pub returns : goal.returns
returns g c =
    record { writes = subst (Prints _ _ _ _) (paths_of_rows c.args.path.now (g.F.Fields.fields c.args.fields.now) c.args.rows.now) c.print_fields.ensures.writes }
