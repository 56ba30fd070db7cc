use Rattle.std.proofs.Common.{◌+◌, drop, flat_map, rules, subst}
use Rattle.tally_print.specs.declared.output.PrintFault.TheVariants.{Memory}
use Rattle.tally_print.specs.inside.Pages.{Fills}
use Rattle.tally_print.proofs.PageLemmas.{fills_push, fills_stop, fills_turn, flat_next, flat_rest}
use Rattle.tally_print.proofs.lines.put_lines.Goals as goal

pub loop-row-preserved : goal.loop-row-preserved
loop-row-preserved g c =
    let text = g.L.Line.text c.args.line.now in
    subst (Fills _ _ _ _ _) (flat_next c.args.page.now.items text c.args.rows.now c.loop-row.row-index c.row-item.result c.loop-row-test.true c.row-item.is)
    (fills_turn (fills_push _ c.loop-row.invariant c.in_ok-push.ensures) c.in_ok-turn_page.ensures.fills)

pub returns-in_err-push : goal.returns-in_err-push
returns-in_err-push g c =
    let text = g.L.Line.text c.args.line.now in
    let i = c.loop-row.row-index in
    record { fills = subst (Fills _ _ _ _ _) (flat_rest c.args.page.now.items text c.args.rows.now i) (fills_stop Memory (search rules) (flat_map text (drop i c.args.rows.now)) c.loop-row.invariant) }

pub returns-in_err-turn_page : goal.returns-in_err-turn_page
returns-in_err-turn_page g c =
    let text = g.L.Line.text c.args.line.now in
    let i = c.loop-row.row-index in
    let head = c.args.page.now.items in
    let turned = subst (Fills _ _ _ _ _) (flat_next head text c.args.rows.now i c.row-item.result c.loop-row-test.true c.row-item.is) (fills_turn (fills_push _ c.loop-row.invariant c.in_ok-push.ensures) c.in_err-turn_page.ensures.fills) in
    record { fills = subst (Fills _ _ _ _ _) (flat_rest head text c.args.rows.now (i + 1)) (fills_stop c.in_err-turn_page.field-0.0 (search rules) (flat_map text (drop (i + 1) c.args.rows.now)) turned) }
