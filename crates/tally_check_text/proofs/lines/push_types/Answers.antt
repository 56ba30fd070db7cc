use Rattle.std.proofs.Common.{ℕ, List, [], ◌++◌, ◌+◌, ◌==◌, true, drop, get_or, arith, ap, sym, ◌∙◌}
use Rattle.std.specs.Prelude.{if◌then◌else◌}
use Rattle.std.proofs.lemmas.List.{append_assoc, append-nil}
use Rattle.tally_check_text.proofs.TypeLemmas.{types_end, types_from}
use Rattle.tally_check_text.specs.SectionText.{type_names, type_text, types_after}
use Rattle.tally_check_text.proofs.lines.push_types.Goals as goal

pub loop-at-preserved : goal.loop-at-preserved
loop-at-preserved c =
    let count = get_or c.args.types.now c.loop-at.at 0 in
    let next = types_from c.loop-at.begun c.args.types.now type_names c.loop-at.at (omega arith) (omega arith) in
    let joined = append_assoc c.loop-at.text.items (if count == 0 then [] else type_text c.loop-at.begun count (get_or type_names c.loop-at.at []))
    (types_after (if count == 0 then c.loop-at.begun else true) (drop (c.loop-at.at + 1) c.args.types.now) (drop (c.loop-at.at + 1) type_names)) in
    rw (c.in_ok-begun.ensures.text, c.in_ok-begun.ensures.begun, c.type_name.ensures)
    (joined ∙ ap (λ (t : List ℕ). c.loop-at.text.items ++ t) (sym next) ∙ c.loop-at.invariant)

pub returns-in_ok-push : goal.returns-in_ok-push
returns-in_ok-push c =
    let over = types_end c.loop-at.begun c.args.types.now (drop c.loop-at.at type_names) c.loop-at.at (omega arith) in
    let whole = rw (over, c.if-begun.true) at c.loop-at.invariant in
    c.in_ok-push.ensures.items ∙ whole

pub returns-else-begun : goal.returns-else-begun
returns-else-begun c =
    let over = types_end c.loop-at.begun c.args.types.now (drop c.loop-at.at type_names) c.loop-at.at (omega arith) in
    let whole = rw (over, c.if-begun.false) at c.loop-at.invariant in
    sym (append-nil c.loop-at.text.items) ∙ whole
