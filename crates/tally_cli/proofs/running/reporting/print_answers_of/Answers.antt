use Rattle.std.proofs.Common.{◌∙◌, map, refl, rules, subst}
use Rattle.tally_print.specs.Output.{Prints}
use Rattle.tally_print.specs.Section.{answer_in}
use Rattle.tally_print.specs.declared.output.PrintFault.TheVariants as print
use Rattle.tally_cli.proofs.Asked.{report_is}
use Rattle.tally_cli.proofs.Reported.{prints_as, prints_from, prints_nothing}
use Rattle.tally_cli.specs.Output.{questions_of}
use Rattle.tally_cli.proofs.running.reporting.print_answers_of.Goals as goal

pub returns-in_err-sections-clause-writes : goal.returns-in_err-sections-clause-writes
returns-in_err-sections-clause-writes g c = prints_from print.Memory _ (search rules) (prints_nothing _ _)

pub returns-in_err-print_and_drop-clause-writes : goal.returns-in_err-print_and_drop-clause-writes
returns-in_err-print_and_drop-clause-writes g c =
    let job = c.args.job.now in
    let answers = map (answer_in c.in_ok-sections.sessions.entries) c.in_ok-sections.sections.items in
    let is = report_is c.args.clock.now c.args.book.clock job c.args.kinds.now (questions_of job.report job.offset c.args.kinds.now job.until) answers c.args.book.logins c.args.book.procs c.requires.clock refl c.in_ok-sections.ensures.value in
    prints_from c.in_err-print_and_drop.field-0.0 _ (search rules) (subst (Prints _ _ _ _) is c.in_err-print_and_drop.ensures.writes)

pub returns-in_ok-print_and_drop-clause-writes : goal.returns-in_ok-print_and_drop-clause-writes
returns-in_ok-print_and_drop-clause-writes g c =
    let job = c.args.job.now in
    let answers = map (answer_in c.in_ok-sections.sessions.entries) c.in_ok-sections.sections.items in
    let is = report_is c.args.clock.now c.args.book.clock job c.args.kinds.now (questions_of job.report job.offset c.args.kinds.now job.until) answers c.args.book.logins c.args.book.procs c.requires.clock refl c.in_ok-sections.ensures.value in
    prints_as is c.in_ok-print_and_drop.ensures.writes

pub returns-in_err-answers-clause-writes : goal.returns-in_err-answers-clause-writes
returns-in_err-answers-clause-writes g c = prints_from print.Memory _ (search rules) (prints_nothing _ _)

pub returns-in_err-print_answers-clause-writes : goal.returns-in_err-print_answers-clause-writes
returns-in_err-print_answers-clause-writes g c =
    let job = c.args.job.now in
    let is =
    report_is c.args.clock.now c.args.book.clock job c.args.kinds.now (questions_of job.report job.offset c.args.kinds.now job.until) c.as_slice.result.now c.args.book.logins c.args.book.procs c.requires.clock refl (c.as_slice.ensures.value ∙ c.in_ok-answers.ensures.value) in
    prints_from c.in_err-print_answers.field-0.0 _ (search rules) (subst (Prints _ _ _ _) is c.in_err-print_answers.ensures.writes)

pub returns-in_ok-print_answers-clause-writes : goal.returns-in_ok-print_answers-clause-writes
returns-in_ok-print_answers-clause-writes g c =
    let job = c.args.job.now in
    let is =
    report_is c.args.clock.now c.args.book.clock job c.args.kinds.now (questions_of job.report job.offset c.args.kinds.now job.until) c.as_slice.result.now c.args.book.logins c.args.book.procs c.requires.clock refl (c.as_slice.ensures.value ∙ c.in_ok-answers.ensures.value) in
    prints_as is c.in_ok-print_answers.ensures.writes
