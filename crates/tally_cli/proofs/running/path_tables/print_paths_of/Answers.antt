use Rattle.std.proofs.Common.{ap, map, rules, subst}
use Rattle.tally_print.specs.Output.{Prints}
use Rattle.tally_print.specs.Section.{answer_in}
use Rattle.tally_print.specs.declared.output.PrintFault.TheVariants as print
use Rattle.tally_sessions.specs.Days.{local}
use Rattle.tally_cli.specs.Apart.{apart_of, path_csv_of}
use Rattle.tally_cli.specs.Output.{table_of}
use Rattle.tally_cli.proofs.ByFile.{answers_are}
use Rattle.tally_cli.proofs.Reported.{prints_as, prints_from, prints_nothing}
use Rattle.tally_cli.proofs.running.path_tables.print_paths_of.Goals as goal

pub returns-in_err-sections-clause-writes : goal.returns-in_err-sections-clause-writes
returns-in_err-sections-clause-writes g c = prints_from print.Memory _ (search rules) (prints_nothing _ _)

pub returns-in_err-print_paths_and_drop-clause-writes : goal.returns-in_err-print_paths_and_drop-clause-writes
returns-in_err-print_paths_and_drop-clause-writes g c =
    let job = c.args.job.now in
    let answers = map (answer_in c.in_ok-sections.sessions.entries) c.in_ok-sections.sections.items in
    let is = ap (path_csv_of (table_of job.report) (local c.args.clock.now job.offset) (apart_of c.args.apart).files)
    (answers_are c.args.clock.now c.args.book.clock job c.args.kinds.now answers c.args.book.logins c.args.book.procs c.requires.clock c.in_ok-sections.ensures.value) in
    prints_from c.in_err-print_paths_and_drop.field-0.0 _ (search rules) (subst (Prints _ _ _ _) is c.in_err-print_paths_and_drop.ensures.writes)

pub returns-clause-writes : goal.returns-clause-writes
returns-clause-writes g c =
    let job = c.args.job.now in
    let answers = map (answer_in c.in_ok-sections.sessions.entries) c.in_ok-sections.sections.items in
    let is = ap (path_csv_of (table_of job.report) (local c.args.clock.now job.offset) (apart_of c.args.apart).files)
    (answers_are c.args.clock.now c.args.book.clock job c.args.kinds.now answers c.args.book.logins c.args.book.procs c.requires.clock c.in_ok-sections.ensures.value) in
    prints_as is c.in_ok-print_paths_and_drop.ensures.writes
