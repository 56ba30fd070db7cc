use Rattle.std.proofs.Common.{◌≡◌, ap, ◌∷◌, Err, flat_map, FitsSigned, refl, rules, subst, sym, w32}
use Rattle.std.proofs.lemmas.Int.{to_z-of_z}
use Rattle.std.proofs.lemmas.List.{take_all}
use Rattle.std.proofs.lemmas.List.Elements.{All-get_or, All-rest}
use Rattle.tally_answers.specs.Answers.{HasDays}
use Rattle.tally_sessions.specs.Days.{local}
use Rattle.tally_print.specs.AnswerText.{answer_text}
use Rattle.tally_print.specs.Output.{Prints, failed_calls}
use Rattle.tally_print.specs.declared.section.Section.{Section}
use Rattle.tally_print.specs.Section.{NamesHostBelow, answer_in}
use Rattle.tally_print.proofs.PageLemmas.{each_next, each_stop, prints_stop, prints_then}
use Rattle.tally_print.proofs.SectionLemmas.{sections_first_by}
use Rattle.tally_print.proofs.section.print_all_sections.Goals as goal

pub print_section-requires-in-loop-section-clause-host : goal.print_section-requires-in-loop-section-clause-host
print_section-requires-in-loop-section-clause-host g c =
    let below = NamesHostBelow c.args.sessions.now.hosts in
    let hosts = All-rest below c.in-Some.first.now c.in-Some.others.now c.args.sections.now c.in-Some.ensures.cases.0 c.requires.hosts in
    subst below (sym c.section-item.is) (All-get_or below c.in-Some.others.now c.loop-section.section-index c.section-item.result c.loop-section-test.true hosts)

pub print_section-requires-in-loop-section-clause-days : goal.print_section-requires-in-loop-section-clause-days
print_section-requires-in-loop-section-clause-days g c =
    let has = λ (s : Section). HasDays (answer_in c.args.sessions.now.entries s) in
    let days = All-rest has c.in-Some.first.now c.in-Some.others.now c.args.sections.now c.in-Some.ensures.cases.0 c.requires.days in
    subst has (sym c.section-item.is) (All-get_or has c.in-Some.others.now c.loop-section.section-index c.section-item.result c.loop-section-test.true days)

pub loop-section-preserved : goal.loop-section-preserved
loop-section-preserved g c =
    each_next (λ section. 10 ∷ answer_text (answer_in c.args.sessions.now.entries section) _ _) c.in-Some.others.now c.loop-section.section-index c.section-item.result c.loop-section-test.true (search rules) c.loop-section.invariant (prints_then c.in_ok-put_all.ensures.writes c.in_ok-print_section-2.ensures.writes)

pub returns-in_err-put_all : goal.returns-in_err-put_all
returns-in_err-put_all g c =
    let offset : FitsSigned w32 c.args.offset = c.ranges.offset in
    let all = sections_first_by (λ answer. answer_text answer (local c.args.clock.now c.args.offset) c.args.until) (answer_in c.args.sessions.now.entries) c.args.sections.now c.in-Some.first.now c.in-Some.others.now c.in-Some.ensures.cases.0 in
    let fault = c.in_err-put_all.field-0.0 in
    let told : c.from_residual-in_err-put_all.result ≡ Err fault = search rules in
    let next = prints_stop fault told (answer_text (answer_in c.args.sessions.now.entries c.section-item.result) (local c.args.clock.now c.args.offset) c.args.until) c.in_err-put_all.ensures.writes in
    let others = each_stop (λ section. 10 ∷ answer_text (answer_in c.args.sessions.now.entries section) (local c.args.clock.now c.args.offset) c.args.until) c.in-Some.others.now c.loop-section.section-index c.section-item.result c.loop-section-test.true (search rules) (simp to_z-of_z at c.loop-section.invariant) next fault told (ap failed_calls told) in
    record { writes = subst (Prints _ _ _ _) all (prints_then (simp to_z-of_z at c.in_ok-print_section.ensures.writes) others) }

pub returns-in_err-print_section-2 : goal.returns-in_err-print_section-2
returns-in_err-print_section-2 g c =
    let offset : FitsSigned w32 c.args.offset = c.ranges.offset in
    let all = sections_first_by (λ answer. answer_text answer (local c.args.clock.now c.args.offset) c.args.until) (answer_in c.args.sessions.now.entries) c.args.sections.now c.in-Some.first.now c.in-Some.others.now c.in-Some.ensures.cases.0 in
    let next = prints_then c.in_ok-put_all.ensures.writes c.in_err-print_section-2.ensures.writes in
    let others = each_stop (λ section. 10 ∷ answer_text (answer_in c.args.sessions.now.entries section) _ _) c.in-Some.others.now c.loop-section.section-index c.section-item.result c.loop-section-test.true (search rules) c.loop-section.invariant next {r' = c.from_residual-in_err-print_section-2.result} c.in_err-print_section-2.field-0.0 (search rules) refl in
    record { writes = subst (Prints _ _ _ _) all (prints_then (simp to_z-of_z at c.in_ok-print_section.ensures.writes) (simp to_z-of_z at others)) }

pub returns : goal.returns
returns g c =
    let offset : FitsSigned w32 c.args.offset = c.ranges.offset in
    let all = sections_first_by (λ answer. answer_text answer (local c.args.clock.now c.args.offset) c.args.until) (answer_in c.args.sessions.now.entries) c.args.sections.now c.in-Some.first.now c.in-Some.others.now c.in-Some.ensures.cases.0 in
    let whole = ap (flat_map (λ section. 10 ∷ answer_text (answer_in c.args.sessions.now.entries section) (local c.args.clock.now c.args.offset) c.args.until)) (take_all c.loop-section.section-index c.in-Some.others.now c.loop-section-test.false) in
    record { writes = subst (Prints _ _ _ _) all (prints_then (simp to_z-of_z at c.in_ok-print_section.ensures.writes) (subst (Prints _ _ _ _) whole (simp to_z-of_z at c.loop-section.invariant))) }
