use Rattle.std.proofs.Common.{ap, ◌∙◌, flat_map, refl, rules, subst, sym, take, w32, ℤ}
use Rattle.std.proofs.lemmas.Int.{to_z-of_z}
use Rattle.std.proofs.lemmas.List.{take_all}
use Rattle.tally_sessions.specs.Days.{local}
use Rattle.tally_print.specs.Output.{Prints}
use Rattle.tally_print.specs.ReportTable.{answer_rows}
use Rattle.tally_print.specs.Tables.{csv_text}
use Rattle.tally_print.proofs.PageLemmas.{each_next, each_stop, prints_then}
use Rattle.tally_print.proofs.ReportTableLemmas.{header_and_rows}
use Rattle.tally_print.proofs.report_table.print_table.Goals as goal

pub loop-answer-preserved : goal.loop-answer-preserved
loop-answer-preserved g c =
    each_next (λ answer. csv_text (answer_rows _ _ answer)) c.args.answers.now c.loop-answer.answer-index c.answer-item.result c.loop-answer-test.true (search rules) c.loop-answer.invariant c.in_ok-print_answer_rows.ensures.writes

pub returns-in_err-print_answer_rows : goal.returns-in_err-print_answer_rows
returns-in_err-print_answer_rows g c =
    let same = ap (λ (x : ℤ). flat_map (λ answer. csv_text (answer_rows c.args.table (local c.args.clock.now x) answer)) c.args.answers.now) (to_z-of_z w32 c.args.offset c.ranges.offset) in
    let rows = subst (Prints _ _ _ _) same (each_stop (λ answer. csv_text (answer_rows _ _ answer)) c.args.answers.now c.loop-answer.answer-index c.answer-item.result c.loop-answer-test.true (search rules) c.loop-answer.invariant c.in_err-print_answer_rows.ensures.writes {r' = c.from_residual-in_err-print_answer_rows.result} c.in_err-print_answer_rows.field-0.0 (search rules) refl) in
    record { writes = subst (Prints _ _ _ _) (sym (header_and_rows c.args.table (local c.args.clock.now c.args.offset) c.args.answers.now)) (prints_then (rw c.header.ensures at c.in_ok-put_all.ensures.writes) rows) }

pub returns : goal.returns
returns g c =
    let same = ap (λ (x : ℤ). flat_map (λ answer. csv_text (answer_rows c.args.table (local c.args.clock.now x) answer)) (take c.loop-answer.answer-index c.args.answers.now)) (to_z-of_z w32 c.args.offset c.ranges.offset)
    ∙ ap (flat_map (λ answer. csv_text (answer_rows c.args.table (local c.args.clock.now c.args.offset) answer))) (take_all c.loop-answer.answer-index c.args.answers.now c.loop-answer-test.false) in
    let rows = subst (Prints _ _ _ _) same c.loop-answer.invariant in
    record { writes = subst (Prints _ _ _ _) (sym (header_and_rows c.args.table (local c.args.clock.now c.args.offset) c.args.answers.now)) (prints_then (rw c.header.ensures at c.in_ok-put_all.ensures.writes) rows) }
