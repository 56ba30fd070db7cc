use Rattle.std.proofs.Common.{◌≡◌, ap, ◌∷◌, Err, flat_map, FitsSigned, refl, rules, subst, sym, w32}
use Rattle.std.proofs.lemmas.Int.{to_z-of_z}
use Rattle.std.proofs.lemmas.List.{take_all}
use Rattle.std.proofs.lemmas.List.Elements.{All-get_or, All-rest}
use Rattle.tally_answers.specs.Answers.{HasDays}
use Rattle.tally_sessions.specs.Days.{local}
use Rattle.tally_print.specs.AnswerText.{answer_text}
use Rattle.tally_print.specs.Output.{Prints, failed_calls}
use Rattle.tally_print.proofs.PageLemmas.{each_next, each_stop, prints_stop, prints_then}
use Rattle.tally_print.proofs.SectionLemmas.{sections_first}
use Rattle.tally_print.proofs.sections.print_sections.Goals as goal

pub print_answer-requires-in-loop-answer-clause-days : goal.print_answer-requires-in-loop-answer-clause-days
print_answer-requires-in-loop-answer-clause-days g c =
    let days = All-rest HasDays c.in-Some.first.now c.in-Some.others.now c.args.answers.now c.in-Some.ensures.cases.0 c.requires.days in
    subst HasDays (sym c.answer-item.is) (All-get_or HasDays c.in-Some.others.now c.loop-answer.answer-index c.answer-item.result c.loop-answer-test.true days)

pub loop-answer-preserved : goal.loop-answer-preserved
loop-answer-preserved g c =
    each_next (λ answer. 10 ∷ answer_text answer _ _) c.in-Some.others.now c.loop-answer.answer-index c.answer-item.result c.loop-answer-test.true (search rules) c.loop-answer.invariant (prints_then c.in_ok-put_all.ensures.writes c.in_ok-print_answer-2.ensures.writes)

pub returns-in_err-put_all : goal.returns-in_err-put_all
returns-in_err-put_all g c =
    let offset : FitsSigned w32 c.args.offset = c.ranges.offset in
    let all = sections_first (λ answer. answer_text answer (local c.args.clock.now c.args.offset) c.args.until) c.args.answers.now c.in-Some.first.now c.in-Some.others.now c.in-Some.ensures.cases.0 in
    let fault = c.in_err-put_all.field-0.0 in
    let told : c.from_residual-in_err-put_all.result ≡ Err fault = search rules in
    let next = prints_stop fault told (answer_text c.answer-item.result (local c.args.clock.now c.args.offset) c.args.until) c.in_err-put_all.ensures.writes in
    let others = each_stop (λ answer. 10 ∷ answer_text answer (local c.args.clock.now c.args.offset) c.args.until) c.in-Some.others.now c.loop-answer.answer-index c.answer-item.result c.loop-answer-test.true (search rules) (simp to_z-of_z at c.loop-answer.invariant) next fault told (ap failed_calls told) in
    record { writes = subst (Prints _ _ _ _) all (prints_then (simp to_z-of_z at c.in_ok-print_answer.ensures.writes) others) }

pub returns-in_err-print_answer-2 : goal.returns-in_err-print_answer-2
returns-in_err-print_answer-2 g c =
    let offset : FitsSigned w32 c.args.offset = c.ranges.offset in
    let all = sections_first (λ answer. answer_text answer (local c.args.clock.now c.args.offset) c.args.until) c.args.answers.now c.in-Some.first.now c.in-Some.others.now c.in-Some.ensures.cases.0 in
    let next = prints_then c.in_ok-put_all.ensures.writes c.in_err-print_answer-2.ensures.writes in
    let others = each_stop (λ answer. 10 ∷ answer_text answer _ _) c.in-Some.others.now c.loop-answer.answer-index c.answer-item.result c.loop-answer-test.true (search rules) c.loop-answer.invariant next {r' = c.from_residual-in_err-print_answer-2.result} c.in_err-print_answer-2.field-0.0 (search rules) refl in
    record { writes = subst (Prints _ _ _ _) all (prints_then (simp to_z-of_z at c.in_ok-print_answer.ensures.writes) (simp to_z-of_z at others)) }

pub returns : goal.returns
returns g c =
    let offset : FitsSigned w32 c.args.offset = c.ranges.offset in
    let all = sections_first (λ answer. answer_text answer (local c.args.clock.now c.args.offset) c.args.until) c.args.answers.now c.in-Some.first.now c.in-Some.others.now c.in-Some.ensures.cases.0 in
    let whole = ap (flat_map (λ answer. 10 ∷ answer_text answer (local c.args.clock.now c.args.offset) c.args.until)) (take_all c.loop-answer.answer-index c.in-Some.others.now c.loop-answer-test.false) in
    record { writes = subst (Prints _ _ _ _) all (prints_then (simp to_z-of_z at c.in_ok-print_answer.ensures.writes) (subst (Prints _ _ _ _) whole (simp to_z-of_z at c.loop-answer.invariant))) }
