use Rattle.std.proofs.Common.{◌∙◌, ap, map, subst, w32, ℤ}
use Rattle.std.proofs.lemmas.Int.{to_z-of_z}
use Rattle.tally_sessions.specs.Days.{local}
use Rattle.tally_print.specs.Output.{Prints}
use Rattle.tally_print.specs.PathTable.{with_path}
use Rattle.tally_print.specs.Section.{answer_in}
use Rattle.tally_print.specs.StayTable.{part_fields, stay_fields}
use Rattle.tally_print.specs.Tables.{csv_text}
use Rattle.tally_print.specs.inside.Paths.{stays_in}
use Rattle.tally_print.proofs.PathLemmas.{part_rows_with_path, stay_rows_with_path}
use Rattle.tally_print.proofs.path_table.print_stays_within.Goals as goal

pub returns-in-None : goal.returns-in-None
returns-in-None g c =
    let answer = answer_in c.args.sessions.now.entries c.args.section.now in
    let same = ap (λ (x : ℤ). csv_text (map (with_path c.args.path.now) (map (stay_fields (local c.args.clock.now x)) (stays_in answer)))) (to_z-of_z w32 c.args.offset c.ranges.offset)
    ∙ stay_rows_with_path (local c.args.clock.now c.args.offset) c.args.path.now answer in
    record { writes = rw c.in-None.is (subst (Prints _ _ _ _) same c.print_path_stays.ensures.writes) }

pub returns-in-Some : goal.returns-in-Some
returns-in-Some g c =
    let answer = answer_in c.args.sessions.now.entries c.args.section.now in
    let period = c.in-Some.period in
    let same = ap (λ (x : ℤ). csv_text (map (with_path c.args.path.now) (map (part_fields (local c.args.clock.now x) period) (stays_in answer)))) (to_z-of_z w32 c.args.offset c.ranges.offset)
    ∙ part_rows_with_path (local c.args.clock.now c.args.offset) period c.args.path.now answer in
    record { writes = rw c.in-Some.is (subst (Prints _ _ _ _) same c.print_path_stays-in-Some.ensures.writes) }
