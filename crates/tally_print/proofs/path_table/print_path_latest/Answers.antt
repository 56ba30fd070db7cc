use Rattle.std.proofs.Common.{subst}
use Rattle.tally_attempts.specs.Attempts.{latest_attempts}
use Rattle.tally_sessions.specs.Lent.{entries_in}
use Rattle.tally_print.specs.Output.{Prints}
use Rattle.tally_print.proofs.PathLemmas.{paths_of_rows}
use Rattle.tally_print.proofs.path_table.print_path_latest.Goals as goal

pub returns : goal.returns
returns g c =
    let rows = latest_attempts c.args.host c.args.limit c.args.choice.now (entries_in c.args.entries) in
    record { writes = subst (Prints _ _ _ _) (paths_of_rows c.args.path.now (g.F.Fields.fields c.args.fields.now) rows) c.print_host_attempts.ensures.writes }
