use Rattle.std.proofs.Common.{◌≡◌, ◌∙◌, List, ap, false, length, map, refl, subst, sym, true}
use Rattle.tally_answers.specs.Answers.{answer_of}
use Rattle.tally_line.specs.declared.job.Report.{Report}
use Rattle.tally_print.specs.AttemptSections.{attempt_answers}
use Rattle.tally_print.specs.Output.{Prints, failed_calls}
use Rattle.tally_print.specs.PathTable.{path_table_text}
use Rattle.tally_print.specs.declared.output.PrintFault.{PrintFault}
use Rattle.tally_print.specs.declared.report_table.Table.TheVariants as tables
use Rattle.tally_sessions.specs.declared.entry.Entry.{Entry}
use Rattle.tally_sessions.specs.Days.{local}
use Rattle.tally_cli.proofs.Asked.{attempts_answered, report_is}
use Rattle.tally_cli.proofs.ByFile.{answers_are, paths_printed, plain_printed}
use Rattle.tally_cli.specs.Apart.{apart_of, has_paths, is_by_file, path_csv_of}
use Rattle.tally_cli.specs.Output.{questions_of, table_of}
use Rattle.tally_cli.proofs.running.reporting.print_attempts_of.Goals as goal

pub returns-then-has_paths : goal.returns-then-has_paths
returns-then-has_paths g c =
    let job = c.args.job.now in
    let kinds = c.args.kinds.now in
    let choice = c.args.choice.now in
    let book = c.args.book in
    let apart = apart_of c.args.apart in
    let others : is_by_file (apart_of c.args.apart) c.args.job.now.report ≡ false = ap (is_by_file apart) c.requires.report in
    let shown : has_paths (apart_of c.args.apart) c.args.job.now ≡ true = sym c.has_paths.ensures ∙ c.if-has_paths.true in
    let asked = attempts_answered book.clock c.args.limit choice kinds book.logins book.procs
    ∙ ap (λ (r : Report). map (λ q. answer_of book.clock q book.logins book.procs) (questions_of r job.offset kinds job.until)) (sym c.requires.report) in
    let answers = answers_are c.args.clock.now book.clock job kinds (attempt_answers (length kinds) c.args.limit choice book.logins) book.logins book.procs c.requires.clock asked in
    let text = ap (λ (r : Report). path_csv_of (table_of r) (local c.args.clock.now job.offset) apart.files (attempt_answers (length kinds) c.args.limit choice book.logins)) (sym c.requires.report)
    ∙ ap (path_csv_of (table_of job.report) (local c.args.clock.now job.offset) apart.files) answers in
    let printed = subst (λ (entries : List Entry). Prints {E = PrintFault} (g.O.Output.state c.args.out.now) (g.O.Output.state c.print_attempt_paths.new.out) c.print_attempt_paths.result (failed_calls c.print_attempt_paths.result)
    (path_table_text tables.Attempts (local c.args.clock.now job.offset) apart.files (attempt_answers (length kinds) c.args.limit choice entries))) c.logins.ensures c.print_attempt_paths.ensures.writes in
    record {
      writes = subst (Prints _ _ _ _) (text ∙ paths_printed c.args.clock.now apart job kinds book.logins book.procs others shown) printed;
    }

pub returns : goal.returns
returns g c =
    let job = c.args.job.now in
    let kinds = c.args.kinds.now in
    let choice = c.args.choice.now in
    let book = c.args.book in
    let apart = apart_of c.args.apart in
    let others : is_by_file (apart_of c.args.apart) c.args.job.now.report ≡ false = ap (is_by_file apart) c.requires.report in
    let hidden : has_paths (apart_of c.args.apart) c.args.job.now ≡ false = sym c.has_paths.ensures ∙ c.if-has_paths.false in
    let asked = attempts_answered book.clock c.args.limit choice kinds book.logins book.procs
    ∙ ap (λ (r : Report). map (λ q. answer_of book.clock q book.logins book.procs) (questions_of r job.offset kinds job.until)) (sym c.requires.report) in
    let is = report_is c.args.clock.now book.clock job kinds (questions_of job.report job.offset kinds job.until) (attempt_answers (length kinds) c.args.limit choice book.logins) book.logins book.procs c.requires.clock refl asked in
    record {
      writes = subst (Prints _ _ _ _) (is ∙ plain_printed c.args.clock.now apart job kinds book.logins book.procs others hidden) (rw c.logins-2.ensures at c.print_attempts.ensures.writes);
    }
