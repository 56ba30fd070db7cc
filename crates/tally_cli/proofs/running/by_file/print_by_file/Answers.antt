use Rattle.std.proofs.Common.{◌∙◌, ap, length, refl, rules, subst}
use Rattle.std.specs.Prelude.{None}
use Rattle.std.specs.List.{flat_map, range_with_len}
use Rattle.tally_print.proofs.PageLemmas.{prints_stop, prints_then}
use Rattle.tally_print.specs.Output.{Prints}
use Rattle.tally_cli.specs.Apart.{apart_of, files_tail}
use Rattle.tally_cli.specs.Output.{report_text}
use Rattle.tally_cli.specs.inside.Parts.{part_text}
use Rattle.tally_cli.proofs.ByFile.{by_file_is, parts_text}
use Rattle.tally_cli.proofs.Reported.{prints_from}
use Rattle.tally_cli.proofs.running.by_file.print_by_file.Goals as goal

pub returns-in_err-print_files-clause-writes : goal.returns-in_err-print_files-clause-writes
returns-in_err-print_files-clause-writes g c =
    let job = c.args.job.now in
    let clock = c.args.clock.now in
    let apart = apart_of c.args.apart in
    let kinds = c.args.kinds.now in
    let book = c.args.book.now in
    let texts = flat_map (part_text clock job None apart) c.as_slice.result.now in
    let same = ap (flat_map (part_text clock job None apart)) (c.as_slice.ensures.value ∙ c.in_ok-parts.ensures.value)
    ∙ parts_text clock book.clock c.args.by_day c.args.by_user c.args.choice.now apart job kinds book.logins (range_with_len 0 (length kinds)) c.requires.clock c.requires.report in
    let is = by_file_is clock apart job kinds book.logins book.procs texts same in
    prints_from c.in_err-print_files.field-0.0 _ (search rules)
    (subst (Prints _ _ _ _) is (prints_stop c.in_err-print_files.field-0.0 refl (files_tail job.form (report_text clock job kinds book.logins book.procs)) c.in_err-print_files.ensures.writes))

pub returns-clause-writes : goal.returns-clause-writes
returns-clause-writes g c =
    let job = c.args.job.now in
    let clock = c.args.clock.now in
    let apart = apart_of c.args.apart in
    let kinds = c.args.kinds.now in
    let book = c.args.book.now in
    let texts = flat_map (part_text clock job None apart) c.as_slice.result.now in
    let same = ap (flat_map (part_text clock job None apart)) (c.as_slice.ensures.value ∙ c.in_ok-parts.ensures.value)
    ∙ parts_text clock book.clock c.args.by_day c.args.by_user c.args.choice.now apart job kinds book.logins (range_with_len 0 (length kinds)) c.requires.clock c.requires.report in
    let is = by_file_is clock apart job kinds book.logins book.procs texts same in
    subst (Prints _ _ _ _) is (prints_then c.in_ok-print_files.ensures.writes c.print_all.ensures.writes)
