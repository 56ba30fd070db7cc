use Rattle.std.proofs.Common.{ap, ◌∙◌, flat_map, refl, rules, subst, sym, take, w32, ℤ}
use Rattle.std.proofs.lemmas.Int.{to_z-of_z}
use Rattle.std.proofs.lemmas.List.{take_all}
use Rattle.tally_sessions.specs.Days.{local}
use Rattle.tally_print.specs.Output.{Prints}
use Rattle.tally_print.specs.ReportTable.{answer_rows}
use Rattle.tally_print.specs.Section.{answer_in}
use Rattle.tally_print.specs.Tables.{csv_text}
use Rattle.tally_print.proofs.PageLemmas.{each_next, each_stop, prints_then}
use Rattle.tally_print.proofs.ReportTableLemmas.{header_and_rows_by}
use Rattle.tally_print.proofs.section.print_section_table.Goals as goal

pub loop-section-preserved : goal.loop-section-preserved
loop-section-preserved g c =
    each_next (λ section. csv_text (answer_rows _ _ (answer_in c.args.sessions.now.entries section))) c.args.sections.now c.loop-section.section-index c.section-item.result c.loop-section-test.true (search rules) c.loop-section.invariant c.in_ok-print_section_rows.ensures.writes

pub returns-in_err-print_section_rows : goal.returns-in_err-print_section_rows
returns-in_err-print_section_rows g c =
    let same = ap (λ (x : ℤ). flat_map (λ section. csv_text (answer_rows c.args.table (local c.args.clock.now x) (answer_in c.args.sessions.now.entries section))) c.args.sections.now) (to_z-of_z w32 c.args.offset c.ranges.offset) in
    let rows = subst (Prints _ _ _ _) same (each_stop (λ section. csv_text (answer_rows _ _ (answer_in c.args.sessions.now.entries section))) c.args.sections.now c.loop-section.section-index c.section-item.result c.loop-section-test.true (search rules) c.loop-section.invariant c.in_err-print_section_rows.ensures.writes {r' = c.from_residual-in_err-print_section_rows.result} c.in_err-print_section_rows.field-0.0 (search rules) refl) in
    record { writes = subst (Prints _ _ _ _) (sym (header_and_rows_by c.args.table (local c.args.clock.now c.args.offset) (answer_in c.args.sessions.now.entries) c.args.sections.now)) (prints_then (rw c.header.ensures at c.in_ok-put_all.ensures.writes) rows) }

pub returns : goal.returns
returns g c =
    let same = ap (λ (x : ℤ). flat_map (λ section. csv_text (answer_rows c.args.table (local c.args.clock.now x) (answer_in c.args.sessions.now.entries section))) (take c.loop-section.section-index c.args.sections.now)) (to_z-of_z w32 c.args.offset c.ranges.offset)
    ∙ ap (flat_map (λ section. csv_text (answer_rows c.args.table (local c.args.clock.now c.args.offset) (answer_in c.args.sessions.now.entries section)))) (take_all c.loop-section.section-index c.args.sections.now c.loop-section-test.false) in
    let rows = subst (Prints _ _ _ _) same c.loop-section.invariant in
    record { writes = subst (Prints _ _ _ _) (sym (header_and_rows_by c.args.table (local c.args.clock.now c.args.offset) (answer_in c.args.sessions.now.entries) c.args.sections.now)) (prints_then (rw c.header.ensures at c.in_ok-put_all.ensures.writes) rows) }
