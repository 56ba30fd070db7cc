use Rattle.std.proofs.Common.{subst}
use Rattle.tally_print.specs.Output.{Prints}
use Rattle.tally_print.specs.Section.{answer_in}
use Rattle.tally_print.specs.inside.Paths.{stays_in}
use Rattle.tally_print.proofs.PathLemmas.{paths_of_rows}
use Rattle.tally_print.proofs.path_table.print_path_stays.Goals as goal

pub returns : goal.returns
returns g c =
    let stays = stays_in (answer_in c.args.sessions.now.entries c.args.section.now) in
    record { writes = subst (Prints _ _ _ _) (paths_of_rows c.args.path.now (g.F.Fields.fields c.args.fields.now) stays) c.print_section_stays.ensures.writes }
